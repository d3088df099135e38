use Rattle.std.proofs.Common.{map}
use Rattle.text_reader.specs.Grammar.{rule, rep}
use Rattle.text_reader.proofs.Steps.{left_of}
use Rattle.text_reader.proofs.Turns.{Turning, Each}
use Rattle.text_productions.specs.Productions as grammar
use Rattle.text_productions.specs.Nodes as node
use Rattle.text_productions.proofs.Fits.{K}
use Rattle.est_grammar.proofs.specification.commons.Given as goal

abbrev pub invariant-loop-reader : goal.invariant-loop-reader
invariant-loop-reader l = Turning K (rep (rule grammar.common)) (rep (rule grammar.common))
    l.fn.reader (Each K (map node.a_common_part l.items)) l.reader

abbrev pub decreases-loop-reader : goal.decreases-loop-reader
decreases-loop-reader l = left_of l.reader
