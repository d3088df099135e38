pub mod SubscriptSteps
pub use Rattle.plain_frames.proofs.of_plain_systems
