pub mod OneText
pub mod Reading
pub mod SameShapes
pub mod SameTokens
pub mod SameViews
pub mod Twins
pub mod Widening
