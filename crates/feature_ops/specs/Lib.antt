pub mod Feature
pub mod Five
