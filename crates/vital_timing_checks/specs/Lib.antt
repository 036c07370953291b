pub mod Levels
pub mod Limits
pub mod PeriodPulses
pub mod RecRems
pub mod SetupHolds
pub mod TimingSteps
pub mod Violations
