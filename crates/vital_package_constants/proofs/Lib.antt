pub mod BreachLemmas
