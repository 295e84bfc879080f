pub mod Grammar
pub mod Reading
pub mod Symbol
pub mod SymbolList
pub mod Value
pub mod Steps
pub mod Earlier
