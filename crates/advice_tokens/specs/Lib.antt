pub mod Beginnings
pub mod Spelled
