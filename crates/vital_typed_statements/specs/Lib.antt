pub mod Given
pub mod StateTables
pub mod Statements
pub mod Uses
