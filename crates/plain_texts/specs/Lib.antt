pub mod KnownNames
pub mod PartIndices
pub use Rattle.plain_declared.specs.rule_scope
pub use Rattle.plain_declared.specs.mean_blocks
pub use Rattle.plain_declared.specs as plain_declared
