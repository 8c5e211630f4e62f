pub mod Bench
pub mod Cases
pub mod Proved
