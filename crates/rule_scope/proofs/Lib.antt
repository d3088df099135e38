pub mod Extents
pub mod Keys
pub mod LeastLaws
pub mod NameRows
