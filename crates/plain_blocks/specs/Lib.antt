pub mod RunningCalls
pub use Rattle.plain_effects.specs.plain_systems
pub use Rattle.plain_effects.specs.plain_operands
