pub mod PrintedText
pub mod inside
