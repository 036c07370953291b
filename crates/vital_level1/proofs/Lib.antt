pub mod ConstantLemmas
pub mod NamedLemmas
pub mod WrongLemmas
pub mod Processes
pub mod Stated
