pub mod HeadLaws
pub mod QueueLaws
pub use Rattle.plain_systems.proofs as of_plain_systems
