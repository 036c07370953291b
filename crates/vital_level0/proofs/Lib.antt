pub mod PortLemmas
pub mod FrontLemmas
pub mod TailLemmas
pub mod EdgeLemmas
pub mod SplitLemmas
pub mod BreachLemmas
pub mod OrderLemmas
mod FirstLemmas
mod FirstBreaches
