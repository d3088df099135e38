-- What only the private functions say.
pub mod Received
pub mod Standings
