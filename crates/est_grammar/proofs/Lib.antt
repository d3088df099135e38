pub mod Made
pub mod Top
