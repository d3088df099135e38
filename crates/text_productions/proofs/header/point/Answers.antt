use Rattle.std.proofs.Common.{refl}
use Rattle.text_reader.proofs.Going.{take, then, last, rule_goes, here_goes, part_still, went_well}
use Rattle.text_reader.proofs.Steps.{still_here}
use Rattle.text_reader.proofs.Single.{name_goes}
use Rattle.text_productions.proofs.Fits.{K}
use Rattle.text_productions.proofs.Made as made
use Rattle.text_productions.proofs.header.point.Goals as goal

pub returns : goal.returns
returns c = let rest = take K c.symbol.ensures (then K refl c.dimensions-dims.ensures
    (then K refl (name_goes K c.name-channel.ensures)
    (take K c.symbol-2.ensures (then K refl (name_goes K c.name-role.ensures)
    (take K c.symbol-3.ensures (then K refl c.queue_given-queue.ensures
    (last K c.symbol-4.ensures))))))) in part_still
    (rule_goes K (here_goes K (then K refl c.idents-names.ensures rest))) still_here
    (λ w. rw (
      c.declared_at-place.ensures,
      made.beginning_is _ _ _ _
          (made.first_at _ c.idents-names.ensures (went_well rest w)),
      made.dimensions_are _ _ _,
    ) refl)
