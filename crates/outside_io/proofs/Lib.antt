pub mod FilesWorld
pub mod Frames
pub mod Limits
pub mod InMemory
pub mod Packs
pub mod TextLemmas
pub mod Units
mod OldBytes
mod OneElement
pub mod UntoldHosts
pub mod Worlds
pub mod EventLemmas
pub mod LineLemmas
pub mod WholeLines
pub mod SplitLines
