pub mod GapLemmas
pub mod RangeLemmas
