pub mod ChangedQueues
pub mod LostQueues
pub use Rattle.plain_systems.specs as plain_systems
pub use Rattle.plain_texts.specs.rule_scope
pub use Rattle.plain_texts.specs.mean_blocks
