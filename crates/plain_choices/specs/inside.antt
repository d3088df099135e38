-- What only the private functions say.
pub mod InstanceOffers
pub mod SystemOffers
