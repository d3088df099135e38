pub mod ResultLaws
pub mod SearchLaws
pub mod SelfRunLaws
pub mod TraceLaws
pub mod WatchLaws
pub mod WordLaws
pub mod WorkLaws
