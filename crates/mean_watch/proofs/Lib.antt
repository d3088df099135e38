pub mod Growing
pub mod Parting
