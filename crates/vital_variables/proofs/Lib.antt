pub mod MeaningLemmas
pub mod UseLemmas
