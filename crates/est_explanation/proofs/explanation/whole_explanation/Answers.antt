use Rattle.std.proofs.Common.{refl}
use Rattle.text_reader.proofs.Going.{part, take, then}
use Rattle.text_reader.proofs.Single.{number_goes, number_takes}
use Rattle.est_explanation.proofs.Explaining.{known}
use Rattle.est_explanation.proofs.explanation.whole_explanation.Goals as goal

pub returns : goal.returns
returns c =
    part refl (take known c.take_word.ensures (take known (number_takes c.number-version.ensures)
    (then known refl c.moves-moves.ensures (take known c.take_word-2.ensures
    (number_goes known c.number-claim.ensures)))))
