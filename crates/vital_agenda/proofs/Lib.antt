mod Rows
pub mod Keys
pub mod Chains
pub mod Parts
pub mod Walks
pub mod Unlinks
pub mod Rising
pub mod Contents
pub mod Sends
pub mod FirstDue
