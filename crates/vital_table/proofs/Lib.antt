pub mod RowMasks
pub mod ColumnLemmas
pub mod Matching
