pub mod Numbers
pub mod Records
