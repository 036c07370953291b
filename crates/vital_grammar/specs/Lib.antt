pub mod Rows
pub mod RuleNumbers
pub mod UnitRules
pub mod DeclarationRules
pub mod StatementRules
pub mod ExpressionRules
pub mod Grammar
pub mod Tables
