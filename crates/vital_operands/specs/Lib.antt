pub mod Outcomes
pub mod Positions
pub mod Seen
pub mod Named
pub mod Items
pub mod Calls
pub mod Faults
pub mod Kept
