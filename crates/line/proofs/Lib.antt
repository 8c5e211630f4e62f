pub mod Walked
pub mod Standing
