pub mod FieldTexts
pub mod Passing
