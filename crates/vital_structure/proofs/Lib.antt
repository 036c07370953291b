pub mod NumberLemmas
pub mod FaultLemmas
