pub mod Together
pub mod PackageValues
pub mod Ports
pub mod Signals
pub mod Generics
pub mod Controls
pub mod Constants
pub mod Variables
