pub mod Connections
pub mod Objects
pub mod Own
pub mod Runs
pub mod Spans
