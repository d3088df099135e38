pub mod GatheredMembers
pub mod JoinedValues
