pub mod FirstTokens
pub mod Nodes
pub mod Productions
pub mod Syntax
pub mod Tokens
pub mod inside
