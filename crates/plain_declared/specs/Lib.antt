pub mod ShownNames
pub use Rattle.mean_blocks.specs.rule_scope
pub use Rattle.mean_blocks.specs as mean_blocks
