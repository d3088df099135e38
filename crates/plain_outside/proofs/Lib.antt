pub mod FirstNames
pub mod NumberSteps
pub mod OutsideSteps
pub mod PortNumbers
pub mod PortPlaces
