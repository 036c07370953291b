pub mod PathLaws
pub mod Turns
