pub mod Rom
pub mod Step
