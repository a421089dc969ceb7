pub mod Utf8
pub mod Letters
pub mod Quoted
pub mod Answers
pub mod Table
pub mod Worked
pub mod Digits
