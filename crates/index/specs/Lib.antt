pub mod Index
pub mod Find
pub mod Held
pub mod Outcome
pub mod Worked
