pub mod JoinedTables
pub mod Names
