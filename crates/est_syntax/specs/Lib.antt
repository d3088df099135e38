pub mod Clauses
pub mod Faults
pub mod Kinds
pub mod Least
pub mod Names
pub mod Signs
pub use Rattle.est_items.specs as est_items
