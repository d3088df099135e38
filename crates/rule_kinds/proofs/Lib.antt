pub mod Clean
pub mod Rows
pub mod Turns
pub use Rattle.rule_scope.proofs as of_rule_scope
