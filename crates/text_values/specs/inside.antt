-- What only the private functions say.
pub mod Gathering
pub mod Looking
pub mod Parts
pub mod Scalars
