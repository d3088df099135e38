pub mod SteppedSystems
pub mod inside
