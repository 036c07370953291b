pub mod Packages
pub mod Uses
pub mod Kept
pub mod Forms
pub mod Breaches
pub mod Verdicts
