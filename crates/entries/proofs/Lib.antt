pub mod Bytes
pub mod Sorts
pub mod Merges
pub mod Chunks
pub mod Index
pub mod Lookups
pub mod Only
