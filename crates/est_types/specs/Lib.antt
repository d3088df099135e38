pub mod DeclarationFaults
pub mod Scalars
pub mod Table
pub mod inside
