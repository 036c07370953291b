pub mod Changes
pub mod Paths
pub mod Within
pub mod Kept
pub mod Scheduling
pub mod Calls
