pub mod ClosedSaid
pub mod Grown
pub mod Growth
pub mod Later
pub mod PlaceOrder
pub mod PlacesAscend
pub mod Said
pub mod Staying
