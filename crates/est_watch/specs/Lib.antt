pub mod Watchers
pub mod inside
