pub mod Taken
pub mod CutAnywhere
