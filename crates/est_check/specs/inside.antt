-- What only the private functions say.
pub mod BlockParts
pub mod Kept
