mod Numbers
mod Fields
mod SectorsRead
mod SectorTens
mod TextTens
mod SectorsMoved
mod Effects
mod Checks
mod Transfers
mod Instructions
pub mod Arms
