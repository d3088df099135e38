use Rattle.std.proofs.Common.{rules, refl}
use Rattle.call_files.proofs.SetLaws.{ReplacesAt-set}
use Rattle.call_files.proofs.places.replace_at.Goals as goal

pub returns : goal.returns
returns c =
    ReplacesAt-set c.args.files.now.items c.args.place c.index_mut.result.now _ (search rules)
    c.index_mut.ensures.value refl refl
