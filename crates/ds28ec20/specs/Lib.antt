pub mod Map
pub mod Above
