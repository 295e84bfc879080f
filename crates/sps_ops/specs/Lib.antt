pub mod Operations
pub mod Rules
