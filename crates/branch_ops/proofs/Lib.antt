pub mod Changes
pub mod RowLemmas
pub mod KnownOperands
pub mod FieldOperands
