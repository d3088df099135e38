use Rattle.std.proofs.Common.{refl, [], ◌∷◌}
use Rattle.text_reader.specs.Tests.{said}
use Rattle.text_reader.proofs.Going.{part, take, last, first_else, chosen}
use Rattle.est_explanation.proofs.Explaining.{known}
use Rattle.est_explanation.proofs.explanation.next_move.Goals as goal

pub returns-then-sees_word : goal.returns-then-sees_word
returns-then-sees_word c =
    part refl (chosen known 1 (said "fire") refl c.if-sees_word.ensures
    (take known c.take_word.ensures c.firing.ensures))

pub returns : goal.returns
returns c =
    part refl (first_else known (said "fire" ∷ []) refl refl refl refl (c.if-sees_word.ensures, tt)
    (last known c.take_word-2.ensures))
