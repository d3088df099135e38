pub mod Apart
pub mod Others
pub mod Printed
pub mod Spaced
pub mod Tidy
pub mod Tokens
