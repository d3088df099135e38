pub mod Directories
pub mod LineReaders
pub mod LineText
pub mod ListShapes
pub mod ListText
pub mod PortNameLaws
pub mod PortNames
pub mod TraceErrors
pub mod TraceShapes
pub mod TraceText
pub mod WrittenTraces
pub mod inside
pub use Rattle.est_check.specs as est_check
