pub mod Lists
pub mod Arrays
pub mod Once
pub mod Sort
