pub mod Whole
pub mod LowCharacters
