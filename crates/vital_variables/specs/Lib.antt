pub mod FormalUses
pub mod Meant
pub mod Given
pub mod Variables
pub mod SecondUses
