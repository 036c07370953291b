pub mod Limits
pub mod Outcomes
pub mod Readings
pub mod Refusals
pub mod Rising
pub mod Steps
