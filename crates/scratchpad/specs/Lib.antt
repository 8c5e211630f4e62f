pub mod Registers
pub mod Map
pub mod Scratchpad
pub mod Phase
