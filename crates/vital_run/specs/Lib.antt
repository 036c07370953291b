pub mod Runs
pub mod Stimuli
pub mod Simulations
pub mod Selves
pub mod Stages
pub mod Aims
