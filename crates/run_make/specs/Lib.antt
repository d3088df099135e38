pub mod Arrivals
pub mod DrawnValues
pub mod Recipe
pub mod Words
pub mod inside
