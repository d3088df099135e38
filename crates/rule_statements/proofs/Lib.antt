pub mod StatementRows
pub mod Turns
