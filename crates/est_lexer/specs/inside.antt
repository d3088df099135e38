pub mod Scanning
pub mod Symbols
