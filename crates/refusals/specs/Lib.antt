pub mod Event
pub mod Search
pub mod Card
pub mod Reading
pub mod Slots
