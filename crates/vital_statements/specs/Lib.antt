pub mod Lists
pub mod Sites
pub mod Statements
pub mod Parentheses
pub mod Called
pub mod Operands
pub mod Sections
pub mod Clauses
