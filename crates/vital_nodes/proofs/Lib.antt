pub mod LowerCase
pub mod Counting
pub mod Walking
pub mod Turns
pub mod Values
pub mod Lists
pub mod Inner
