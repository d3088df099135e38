use Rattle.std.proofs.Common.{refl}
use Rattle.text_reader.proofs.Going.{then}
use Rattle.text_reader.proofs.Single.{number_goes}
use Rattle.est_explanation.proofs.Explaining.{known}
use Rattle.est_explanation.proofs.explanation.firing.Goals as goal

pub returns : goal.returns
returns c =
    then known refl (number_goes known c.number-instance.ensures)
    (then known refl (number_goes known c.number-transition.ensures)
    (number_goes known c.number-choice.ensures))
