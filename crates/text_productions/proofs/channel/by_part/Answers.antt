use Rattle.std.proofs.Common.{refl}
use Rattle.text_reader.proofs.Going.{take, then, rule_goes, part_still}
use Rattle.text_reader.proofs.Steps.{still_on, still_well}
use Rattle.text_reader.proofs.Single.{name_goes}
use Rattle.text_productions.proofs.Fits.{K}
use Rattle.text_productions.proofs.Made as made
use Rattle.text_productions.proofs.channel.by_part.Goals as goal

pub returns : goal.returns
returns c =
    part_still (rule_goes K (take K c.word.ensures (then K refl (name_goes K c.name-first.ensures)
    (then K refl c.other_role-second.ensures
    (take K c.symbol.ensures c.interactions-interactions.ensures))))) (still_on c.keep.ensures.still
    c.keep_some.ensures.still)
    (λ w. rw (
      c.keep_some.ensures.added w,
      c.keep.ensures.added
          (still_well c.keep_some.ensures.still w),
      c.new-roles.ensures,
    ) (made.roles_made _ _ _))
