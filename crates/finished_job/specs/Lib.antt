pub mod Pieces
pub mod Said
pub mod Lost
pub mod WholeJob
