-- What only functions of this crate say.
pub mod Initialized
pub mod OutOfMemory
