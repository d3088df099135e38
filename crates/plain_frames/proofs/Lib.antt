pub mod NamesFound
pub mod RoutineSteps
pub mod StoredValues
pub mod WrittenFrames
pub mod WrittenRows
pub use Rattle.plain_systems.proofs as of_plain_systems
