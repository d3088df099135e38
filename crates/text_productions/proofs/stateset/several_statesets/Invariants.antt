use Rattle.std.proofs.Common.{map}
use Rattle.text_reader.specs.Grammar.{rule, rep}
use Rattle.text_reader.proofs.Steps.{left_of}
use Rattle.text_reader.proofs.Turns.{Turning, Each}
use Rattle.text_productions.specs.Productions as grammar
use Rattle.text_productions.specs.Nodes as node
use Rattle.text_productions.proofs.Fits.{K}
use Rattle.text_productions.proofs.stateset.several_statesets.Given as goal

abbrev pub invariant-loop-reader : goal.invariant-loop-reader
invariant-loop-reader l = Turning K (grammar.several (rule grammar.stateset))
    (rep (rule grammar.stateset)) l.fn.reader (Each K (map node.a_state_set l.items)) l.reader

abbrev pub decreases-loop-reader : goal.decreases-loop-reader
decreases-loop-reader l = left_of l.reader
