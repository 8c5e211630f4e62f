pub mod Signed
pub mod Kinds
pub mod Pages
pub mod Readers
pub mod Heads
pub mod Words
pub mod Judging
pub mod Puts
