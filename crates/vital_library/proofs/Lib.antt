mod Rows
pub mod NameLemmas
pub mod FaultLemmas
pub mod NumberedLemmas
pub mod LimitLemmas
pub mod ConstantLemmas
pub mod NumberLemmas
pub mod EntryLemmas
pub mod RoleLemmas
pub mod LibraryLemmas
