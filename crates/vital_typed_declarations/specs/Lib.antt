pub mod Asked
pub mod Values
pub mod Declarations
