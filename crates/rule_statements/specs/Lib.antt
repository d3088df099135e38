pub mod Cases
pub mod LinkFaults
pub mod Modules
pub mod Signals
pub mod Statements
pub mod Targets
