pub mod Numerals
pub mod Digits
pub mod Signs
pub mod Hex
pub mod Spelling
