pub mod Numbers
pub mod Ward
pub mod Index
