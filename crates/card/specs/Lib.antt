pub mod Card
pub mod Reading
pub mod Fits
