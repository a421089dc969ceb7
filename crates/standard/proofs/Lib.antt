pub mod Constant
pub mod Only
