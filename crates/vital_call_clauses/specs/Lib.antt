pub mod WrongCalls
pub mod Clauses
