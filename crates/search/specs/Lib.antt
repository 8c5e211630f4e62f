pub mod Host
pub mod Search
pub mod Branch
pub mod Counts
pub mod Pass
pub mod Passes
pub mod Prefix
