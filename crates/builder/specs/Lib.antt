pub mod Build
pub mod Worked
pub mod Survey
pub mod Outcome
