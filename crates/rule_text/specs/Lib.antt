pub mod Forms
pub mod Items
pub mod Fields
pub mod Answers
pub mod Worked
pub mod Order
