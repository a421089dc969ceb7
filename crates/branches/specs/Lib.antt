pub mod Branches
pub mod Held
pub mod Choice
pub mod Room
pub mod Worked
