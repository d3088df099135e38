pub mod Declaring
pub mod LeastSoFar
pub mod Outline
pub mod Predeclared
pub mod Uses
pub mod inside
