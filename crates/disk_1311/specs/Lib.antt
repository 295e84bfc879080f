pub mod Control
pub mod Sector
pub mod Disk
pub mod DiskCalls
pub mod Moving
