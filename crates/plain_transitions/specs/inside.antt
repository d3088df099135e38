-- What only the private functions say.
pub mod AddedTransitions
pub mod BodyTables
pub mod CalmEvaluations
pub mod ChosenTuples
pub mod HeldClauses
pub mod KeyedNumbers
pub mod StateNumbers
