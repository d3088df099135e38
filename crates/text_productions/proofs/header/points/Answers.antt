use Rattle.std.proofs.Common.{refl}
use Rattle.text_reader.proofs.Going.{goes_still}
use Rattle.text_reader.proofs.Steps.{still_here}
use Rattle.text_productions.proofs.header.points.Goals as goal

pub returns : goal.returns
returns c = goes_still c.points_section.ensures.goes still_here
    (λ w. rw (c.points_section.ensures.added w, c.new-items.ensures) refl)
