pub mod BirthLaws
pub mod StampLaws
