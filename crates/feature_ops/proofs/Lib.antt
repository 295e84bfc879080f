pub mod Cycles
mod SoundTurns
pub mod Sums
pub mod Flags
pub mod Turns
pub mod Words
