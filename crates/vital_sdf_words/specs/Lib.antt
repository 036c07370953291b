pub mod Conditions
pub mod Decimals
pub mod Paths
pub mod Readings
pub mod TidyNames
pub mod Units
