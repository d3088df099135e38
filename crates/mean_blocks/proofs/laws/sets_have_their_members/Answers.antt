-- An intersection has the members of both sets, a difference those of the first alone.
use Rattle.mean_blocks.proofs.SetMembers.{common_members, other_members}
use Rattle.mean_blocks.proofs.laws.sets_have_their_members.Goals as goal

pub returns-clause-both : goal.returns-clause-both
returns-clause-both c = common_members

pub returns-clause-first : goal.returns-clause-first
returns-clause-first c = other_members
