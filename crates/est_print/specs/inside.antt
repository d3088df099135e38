-- What only the private functions say.
pub mod StatementKinds
