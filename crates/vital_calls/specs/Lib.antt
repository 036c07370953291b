pub mod Formals
pub mod Calls
pub mod Matching
