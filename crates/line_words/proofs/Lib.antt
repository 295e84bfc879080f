pub mod WordsBehind
pub mod Cutting
pub mod EndBlanks
pub mod Numbers
