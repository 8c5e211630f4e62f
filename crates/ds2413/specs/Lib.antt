pub mod Switch
pub mod Phase
