pub mod HeldSystems
