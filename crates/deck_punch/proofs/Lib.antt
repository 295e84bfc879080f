pub mod Covering
pub mod Declaring
pub mod DenseCovering
mod Taking
mod Texts
mod DenseTexts
pub mod WithTables
pub mod Pieces
pub mod TransferCard
