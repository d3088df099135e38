pub mod Counts
pub mod GivenClauses
pub mod PortListLaws
pub mod PortTable
pub mod inside
