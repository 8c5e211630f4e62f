pub mod Words
pub mod Apart
