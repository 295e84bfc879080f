pub mod Lines
pub mod Script
pub mod Scripts
pub mod Turn
pub mod TurnEvents
pub mod Run
