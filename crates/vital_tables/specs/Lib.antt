pub mod Symbols
pub mod Tables
