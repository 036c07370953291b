pub mod Rows
pub mod RuleNumbers
pub mod FileRules
pub mod DelayRules
pub mod CheckRules
pub mod Grammar
pub mod Tables
