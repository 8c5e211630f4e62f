pub mod Back
pub mod Gathered
