pub mod Bottoms
pub mod Paths
