pub mod Values
pub mod Events
pub mod SignalStates
pub mod Sources
pub mod Lists
pub mod Rounds
