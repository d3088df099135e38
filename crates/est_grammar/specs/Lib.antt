pub mod Answer
pub mod OneTree
pub mod inside
