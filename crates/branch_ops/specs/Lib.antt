pub mod Registers
pub mod Operands
pub mod Fields
pub mod Branch
pub mod Carried
