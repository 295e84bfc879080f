pub mod Columns
pub mod Numbers
pub mod Operands
pub mod Specials
pub mod Statement
pub mod Spans
