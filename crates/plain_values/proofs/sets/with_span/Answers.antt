use Rattle.std.proofs.Common.{subst}
use Rattle.plain_values.specs.GatheredMembers.{IsGathered}
use Rattle.plain_values.proofs.MemberCounts.{many_with_span}
use Rattle.plain_values.proofs.sets.with_span.Goals as goal

pub returns-in-Many : goal.returns-in-Many
returns-in-Many c zs g =
    many_with_span c.args.a c.args.b zs (subst (IsGathered zs) c.in-Many.is g)
