mod SeenLemmas
pub mod ConstantLemmas
pub mod FirstLemmas
pub mod ViewpointLemmas
