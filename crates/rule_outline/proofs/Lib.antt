pub mod PartRows
pub mod Rows
pub mod StatementRows
