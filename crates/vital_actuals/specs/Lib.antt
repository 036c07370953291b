pub mod Kinds
pub mod Targets
pub mod Literals
pub mod Paths
pub mod Actuals
