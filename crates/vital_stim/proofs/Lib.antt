mod Rows
pub mod FieldLemmas
pub mod LineLemmas
pub mod NumberLemmas
pub mod EntryLemmas
pub mod Positions
pub mod PortLemmas
pub mod NameLemmas
pub mod GivenLemmas
pub mod KnownLemmas
pub mod SpellingLemmas
pub mod BuilderLemmas
pub mod Progress
pub mod Sound
