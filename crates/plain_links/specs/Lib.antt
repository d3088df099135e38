pub mod ChangedSystems
