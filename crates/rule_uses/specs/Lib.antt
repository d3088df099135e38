pub mod Closed
pub mod NamesInExpressions
pub mod NamesInStatements
pub mod NamesInTexts
pub mod Routines
