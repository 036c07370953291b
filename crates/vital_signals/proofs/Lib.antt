mod Rows
pub mod NumberLemmas
pub mod SourceLemmas
pub mod RoundLemmas
pub mod DueLemmas
pub mod StateLemmas
