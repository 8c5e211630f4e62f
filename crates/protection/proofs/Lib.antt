pub mod Blocks
pub mod Protection
pub mod Public
