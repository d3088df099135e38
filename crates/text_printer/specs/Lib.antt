pub mod Aside
pub mod PlainGrammar
pub mod PlainNodes
pub mod PlainSpelling
pub mod Printing
pub mod Putting
pub mod Spacing
pub mod Turns
