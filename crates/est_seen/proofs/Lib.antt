pub mod KnownMatches
pub mod MatchEach
pub mod MatchesByForm
