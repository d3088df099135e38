pub mod ExpressionRows
pub mod Sequences
pub mod StatementRows
pub mod TextRows
