pub mod WatchLaws
pub mod Watching
