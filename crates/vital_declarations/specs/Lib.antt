pub mod Numbers
pub mod Digits
pub mod Types
pub mod Operands
pub mod Constants
