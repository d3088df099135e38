-- What only the private functions say.
pub mod Ahead
pub mod Cursors
pub mod Known
pub mod Leftover
pub mod PortOrder
pub mod Standing
pub mod Walk
