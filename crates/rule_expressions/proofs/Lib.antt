pub mod Clean
pub mod Rows
pub mod Turns
