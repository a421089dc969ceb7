pub mod Rules
pub mod Plate
