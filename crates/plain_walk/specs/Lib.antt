pub mod MadeMoves
pub mod SentItems
pub mod TakenItems
pub mod inside
