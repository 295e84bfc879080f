pub mod Counts
pub mod Front
pub mod Pile
pub mod Hopper
pub mod Reader
pub mod Punch
pub mod CardCalls
