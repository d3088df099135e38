-- What only the private functions say.
pub mod Agreement
pub mod Ahead
pub mod Known
pub mod Path
pub mod Walk
