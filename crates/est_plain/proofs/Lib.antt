pub mod HistoryLaws
pub mod WorldLaws
