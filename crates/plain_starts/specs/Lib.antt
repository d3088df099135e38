pub mod StartedSystems
