-- What only the private functions say.
pub mod Searching
pub mod SelfRunning
pub mod TraceWork
pub mod Watching
pub mod Work
pub mod Written
