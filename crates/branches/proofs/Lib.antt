pub mod Merging
pub mod Choice
pub mod Room
pub mod Extending
pub mod Steps
pub mod Codes
pub mod Only
