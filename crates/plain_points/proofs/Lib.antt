pub mod DeclaredLaws
pub mod TupleLaws
