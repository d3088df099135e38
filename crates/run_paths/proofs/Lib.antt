pub mod BestRuns
