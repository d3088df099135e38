-- What only the private functions say.
pub mod RoutineFrames
pub mod WrittenLists
