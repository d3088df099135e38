pub mod ConstantHeads
pub mod Places
pub use Rattle.mean_blocks.proofs as of_mean_blocks
