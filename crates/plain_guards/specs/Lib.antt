pub use Rattle.plain_clauses.specs.plain_systems
pub use Rattle.plain_clauses.specs.plain_transitions
pub use Rattle.plain_clauses.specs as plain_clauses
