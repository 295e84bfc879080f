pub mod Arguments
pub mod Blanks
pub mod Decimals
pub mod Rows
pub mod Words
