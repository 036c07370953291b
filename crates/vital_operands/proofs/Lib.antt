pub mod Steps
pub mod PlaceLemmas
pub mod ShortVectors
