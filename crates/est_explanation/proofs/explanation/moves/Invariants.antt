use Rattle.std.proofs.Common.{map}
use Rattle.text_reader.specs.Grammar.{rep}
use Rattle.text_reader.proofs.Steps.{left_of}
use Rattle.text_reader.proofs.Turns.{Turning, Each}
use Rattle.est_explanation.specs.ExplanationGrammar.{move}
use Rattle.est_explanation.specs.ExplanationNodes.{a_move}
use Rattle.est_explanation.proofs.Explaining.{known}
use Rattle.est_explanation.proofs.explanation.moves.Given as goal

abbrev pub invariant-loop-reader : goal.invariant-loop-reader
invariant-loop-reader l = Turning known (rep move) (rep move) l.fn.reader
    (Each known (map a_move l.moves)) l.reader

abbrev pub decreases-loop-reader : goal.decreases-loop-reader
decreases-loop-reader l = left_of l.reader
