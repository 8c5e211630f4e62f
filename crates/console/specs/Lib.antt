pub mod Counting
pub mod Room
pub mod Input
pub mod InputLaw
