pub mod Borne
pub mod Host
pub mod Round
pub mod BorneLaw
pub mod Reading
pub mod Spends
pub mod Pages
pub mod Rounds
