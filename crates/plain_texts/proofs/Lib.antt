pub mod IndexLaws
pub mod PartLaws
pub use Rattle.plain_declared.proofs.of_mean_blocks
