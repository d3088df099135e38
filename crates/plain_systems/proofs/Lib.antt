pub mod FirstFound
pub mod FirstPlaces
pub mod SamePoints
