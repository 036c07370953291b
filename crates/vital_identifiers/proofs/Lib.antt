mod Rows
pub mod RunLemmas
