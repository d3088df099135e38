pub mod JoinedOperators
pub mod MemberCounts
pub mod MembersInTurn
