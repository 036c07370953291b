pub mod Given
pub mod PathDelays
pub mod TimingChecks
pub mod StateTables
pub mod Sections
