pub mod BareVariables
pub mod Bodies
pub mod Contexts
pub mod Declares
pub mod Differing
pub mod Entries
pub mod Lasts
pub mod LookUps
pub mod OrdinalValues
pub mod OutlineLaws
pub mod PortList
pub mod RequiredFunctions
pub use Rattle.rule_kinds.specs.rule_scope
pub use Rattle.rule_kinds.specs as rule_kinds
