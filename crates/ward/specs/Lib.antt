pub mod Ward
pub mod Codes
pub mod Puts
pub mod Outcome
