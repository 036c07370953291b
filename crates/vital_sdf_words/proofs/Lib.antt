mod Rows
pub mod DigitLemmas
pub mod NearestLemmas
pub mod PathLemmas
pub mod ReadingLemmas
pub mod ReplacementLemmas
pub mod SignLemmas
pub mod TenthLemmas
pub mod TidyLemmas
