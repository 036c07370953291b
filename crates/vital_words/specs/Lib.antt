pub mod Keys
pub mod Commands
pub mod Refusals
pub mod Jobs
pub mod Given
