pub mod Fits
pub mod Layers
pub mod Made
pub mod OneValue
pub mod Pieces
pub mod Sorts
pub mod Told
