-- What only the private functions say.
pub mod CommandWords
pub mod OutOfMemory
