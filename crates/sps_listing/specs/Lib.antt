pub mod Texts
pub mod Listing
pub mod Sending
pub mod Others
pub mod Refused
pub mod Standing
