pub mod AllowedTable
pub mod Fronts
pub mod Parting
pub mod PartCounts
pub mod Places
pub mod SpecialTable
pub mod Statements
