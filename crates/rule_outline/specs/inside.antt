-- What only the private functions say.
pub mod DeclaredParts
pub mod DeclaredTexts
