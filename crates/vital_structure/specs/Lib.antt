pub mod Shapes
pub mod Signals
pub mod Contents
pub mod Faults
pub mod Statements
pub mod Structures
