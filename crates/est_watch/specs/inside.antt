-- What only the private functions say.
pub mod Agreement
pub mod Known
pub mod Walk
