pub mod Names
pub mod Front
pub mod Digits
pub mod Lines
pub mod Putting
pub mod Answers
pub mod Only
