pub mod First
pub mod Once
pub mod Order
pub mod Claims
pub mod Worked
