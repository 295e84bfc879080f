pub mod HeldDigits
pub mod CardsTaken
pub mod Leading
pub mod CardDigits
pub mod Rows
pub mod Lamps
pub mod NextCard
