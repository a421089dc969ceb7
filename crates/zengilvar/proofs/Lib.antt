pub mod Only
pub mod OnlyIsPlate
pub mod OnlyWard
pub mod OnlyIndex
