pub mod Predictive
