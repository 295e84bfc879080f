pub mod Hundreds
pub mod Stretches
pub mod Cover
pub mod Bootstrap
pub mod BootstrapDeck
pub mod DiskOverlay
pub mod DiskLoads
pub mod Writes
