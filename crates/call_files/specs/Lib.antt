pub mod CallNumbers
pub mod FaultCounts
pub mod FileEnds
pub mod FileTexts
pub mod Files
pub mod Memory
pub mod MemoryFiles
pub mod MemorySink
pub mod Pieces
pub mod PortReports
pub mod ReadableReports
pub mod Reads
pub mod RefusalLines
pub mod ReportLines
pub mod Reports
pub mod Requests
pub mod SearchReports
pub mod Seen
pub mod SelfRunReports
pub mod Statuses
pub mod Wholes
pub mod inside
pub use Rattle.est_trace.specs.est_check
pub use Rattle.est_trace.specs as est_trace
pub use Rattle.est_explanation.specs as est_explanation
pub use Rattle.est_lexer.specs as est_lexer
