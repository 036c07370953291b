pub mod DigitLemmas
pub mod LiteralLemmas
pub mod NumeralLemmas
pub mod OrderLemmas
pub mod WordLemmas
