pub mod Wired
pub mod Public
