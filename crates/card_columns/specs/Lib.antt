pub mod Orders
pub mod Types
