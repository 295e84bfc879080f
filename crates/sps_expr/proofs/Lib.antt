pub mod ByGrammar
pub mod Cases
pub mod EarlierSymbols
pub mod Finding
pub mod Fronts
pub mod Keys
pub mod Maps
pub mod OneEntry
mod Outcomes
pub mod Places
pub mod Trees
pub mod Values
pub mod Words
