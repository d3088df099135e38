pub mod inside
pub use Rattle.plain_guards.specs as plain_guards
