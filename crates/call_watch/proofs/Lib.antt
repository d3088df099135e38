pub mod AnswerLaws
pub mod Answered
pub mod CallLaws
pub mod Found
pub mod LineKinds
pub mod LineLaws
pub mod ReadingLaws
pub mod Taken
