pub mod Lexicon
pub mod Nesting
pub mod Outcome
pub mod Pieces
pub mod Places
pub mod Reading
pub mod TextPosition
