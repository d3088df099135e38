pub mod Answering
pub mod BlindExpressions
pub mod BlindFunctions
pub mod ExpressionLayers
pub mod FirstChanged
pub mod FittingTaken
pub mod HostLayers
pub mod KeptByBlocks
pub mod MutualPeers
pub mod NumbersAscend
pub mod OrderlyStarts
pub mod RowsAndLists
pub mod SetMembers
pub mod StatementLayers
pub mod UndefinedUnique
pub mod UndefinedVariables
pub use Rattle.rule_declares.proofs.of_rule_scope
pub use Rattle.rule_declares.proofs as of_rule_declares
