pub mod AssociatedLemmas
pub mod FindLemmas
pub mod FittingLemmas
pub mod GapLemmas
pub mod OwnLemmas
pub mod PartLemmas
pub mod SortLemmas
pub mod SpanLemmas
