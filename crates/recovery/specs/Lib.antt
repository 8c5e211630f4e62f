pub mod Sessions
pub mod CarriedOut
pub mod Stays
pub mod Opening
pub mod Filled
pub mod Goes
pub mod Written
