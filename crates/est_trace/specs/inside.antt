-- What only the private functions say.
pub mod AtPorts
pub mod Counting
pub mod FoundTraces
pub mod GrowingLists
pub mod ListReading
pub mod Listing
pub mod Lookups
pub mod Parts
pub mod Subscripts
pub mod Versions
pub mod WholeLines
pub mod Wholes
