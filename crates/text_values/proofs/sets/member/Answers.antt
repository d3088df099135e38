use Rattle.std.proofs.Common.{rules, w32}
use Rattle.std.proofs.lemmas.Int.{to_z-of_z}
use mir.Val.{SFits}
use Rattle.text_values.proofs.SetParts.{still_ascends}
use Rattle.text_values.proofs.sets.member.Goals as goal

pub returns-in-Ok-clause-ascend : goal.returns-in-Ok-clause-ascend
returns-in-Ok-clause-ascend c =
    let fits : SFits w32 c.ordinal-z.result = search rules in
    still_ascends _ c.ordinal-z.result c.args.members.now c.put.new.members fits
    (to_z-of_z w32 c.ordinal-z.result fits) c.requires c.in-Ok.ensures.ok
