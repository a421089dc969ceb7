pub mod Leaving
pub mod Keeps
pub mod First
pub mod Once
pub mod Ordered
pub mod Calls
pub mod Order
