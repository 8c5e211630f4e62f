pub mod Listing
pub mod Count
pub mod Public
pub mod AfterTrouble
pub mod TooFew
pub mod Case
pub mod AfterCalls
