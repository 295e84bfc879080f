pub mod Loads
pub mod ObjectDeck
