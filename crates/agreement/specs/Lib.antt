pub mod Agree
pub mod Slots
pub mod Slice
pub mod InC
pub mod AfterTroubleLent
pub mod AfterTroubleC
pub mod RefusedCard
