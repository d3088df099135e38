pub mod PlainNames
pub mod ReadBackLaws
pub mod ReadableKinds
pub mod ReadableLaws
pub mod ReadablePorts
pub mod WellFormedLaws
