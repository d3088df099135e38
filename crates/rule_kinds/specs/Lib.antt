pub mod CleanConstants
pub mod Constants
pub mod Dims
pub mod TypeTexts
pub use Rattle.rule_scope.specs as rule_scope
