use Rattle.text_reader.specs.Grammar.{rule, rep}
use Rattle.text_reader.proofs.Steps.{left_of}
use Rattle.text_reader.proofs.Turns.{Adding}
use Rattle.text_productions.specs.Productions as grammar
use Rattle.text_productions.specs.Nodes as node
use Rattle.text_productions.proofs.Fits.{K}
use Rattle.text_productions.proofs.header.more_points.Given as goal

abbrev pub invariant-loop-reader : goal.invariant-loop-reader
invariant-loop-reader l = Adding K node.a_point (grammar.several (rule grammar.point))
    (rep (rule grammar.point)) l.fn.reader l.fn.items l.items l.reader

abbrev pub decreases-loop-reader : goal.decreases-loop-reader
decreases-loop-reader l = left_of l.reader
