pub mod HeldFrames
pub mod inside
pub use Rattle.plain_systems.specs as plain_systems
