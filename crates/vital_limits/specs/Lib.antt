pub mod Passed
pub mod Counts
pub mod NodeLimits
pub mod WithinLimits
pub mod TextLimits
pub mod ConstantLimits
pub mod CellLimits
