pub mod FittingTransitions
pub mod WrittenTransitions
pub mod inside
