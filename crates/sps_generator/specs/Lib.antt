pub mod Lines
pub mod Generated
