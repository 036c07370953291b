pub mod Symbols
pub mod Tables
pub mod Matches
pub mod Results
pub mod Masks
