pub mod Reads
pub mod Cursors
pub mod Levels
pub mod Together
pub mod Outcomes
