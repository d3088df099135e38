pub mod LostRows
pub mod NewInstances
pub use Rattle.plain_frames.specs as plain_frames
