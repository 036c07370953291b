pub mod Actuals
pub mod Named
pub mod Wires
pub mod PathDelays
pub mod Clauses
pub mod Kept
