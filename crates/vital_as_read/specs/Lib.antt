pub mod AsRead
pub mod Libraries
