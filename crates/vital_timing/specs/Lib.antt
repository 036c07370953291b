pub mod Delays
pub mod TimeLiterals
