pub mod SystemSteps
pub use Rattle.plain_operands.specs.plain_systems
pub use Rattle.plain_operands.specs as plain_operands
