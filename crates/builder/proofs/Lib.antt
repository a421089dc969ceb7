pub mod Goods
pub mod Patterns
pub mod Turns
pub mod Again
pub mod Replies
pub mod Only
