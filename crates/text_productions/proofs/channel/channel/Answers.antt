use Rattle.std.proofs.Common.{refl}
use Rattle.text_reader.proofs.Going.{take, then, rule_goes, part_still}
use Rattle.text_reader.proofs.Steps.{still_on, still_well}
use Rattle.text_reader.proofs.Single.{name_goes}
use Rattle.text_productions.proofs.Fits.{K}
use Rattle.text_productions.proofs.channel.channel.Goals as goal

pub returns : goal.returns
returns c =
    part_still (rule_goes K (take K c.word.ensures (then K refl (name_goes K c.name-name.ensures)
    (take K c.symbol.ensures (then K refl (name_goes K c.name-first.ensures)
    (take K c.symbol-2.ensures (then K refl (name_goes K c.name-second.ensures)
    (take K c.symbol-3.ensures (take K c.symbol-4.ensures c.by_parts-by.ensures)))))))))
    (still_on c.keep.ensures.still c.keep-2.ensures.still)
    (λ w. rw (
      c.keep-2.ensures.added w,
      c.keep.ensures.added (still_well c.keep-2.ensures.still w),
      c.new-roles.ensures,
    ) refl)
