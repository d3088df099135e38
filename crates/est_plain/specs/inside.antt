-- What only the private functions say.
pub mod HeldStacks
pub mod NumberedSystems
