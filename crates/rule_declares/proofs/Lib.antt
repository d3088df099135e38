pub mod Elements
pub mod Growing
pub mod Grown
pub mod Names
pub mod Regions
pub use Rattle.rule_kinds.proofs.of_rule_scope
pub use Rattle.rule_kinds.proofs as of_rule_kinds
