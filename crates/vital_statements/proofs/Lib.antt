pub mod Steps
pub mod BareLemmas
pub mod SectionLemmas
pub mod CheckLemmas
