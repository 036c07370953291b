pub mod BesideLemmas
pub mod PutLemmas
pub mod EachLemmas
pub mod AmongLemmas
pub mod ReadLemmas
