-- What only the private functions say.
pub mod Counted
pub mod KnownSides
pub mod Making
