pub mod Entries
pub mod Worked
