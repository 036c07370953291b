pub mod Operators
pub mod Primitives
