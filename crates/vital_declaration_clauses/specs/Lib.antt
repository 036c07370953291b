pub mod Regions
pub mod Scopes
pub mod GoodConstants
pub mod Clauses
