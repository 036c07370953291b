pub mod IdentifierNames
pub mod Turns
pub mod Straight
pub mod LastDeclared
pub mod Answered
pub mod Standing
