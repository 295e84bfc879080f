pub mod Sending
pub mod ImageLines
pub mod Characters
pub mod PlacedStatements
pub mod Lines
pub mod Ahead
pub mod OtherStatements
