pub mod Guarded
pub mod And
