pub mod Kinds
pub mod Limits
pub mod With
pub mod Chip
pub mod Range
pub mod Level
pub mod Bounds
pub mod RangeKept
