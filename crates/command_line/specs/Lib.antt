pub mod Options
pub mod Reading
pub mod Words
pub mod Numbers
pub mod Given
pub mod Sets
pub mod Known
pub mod Matched
