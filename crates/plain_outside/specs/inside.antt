-- What only the private functions say.
pub mod NamedPlaces
pub mod NumberedTuples
pub mod OutsideParts
