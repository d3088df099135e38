pub mod FiredSteps
pub mod StampSteps
pub mod StampedRows
pub mod TimedChoices
