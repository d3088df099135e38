-- What only functions of this crate say.
pub mod Structures
