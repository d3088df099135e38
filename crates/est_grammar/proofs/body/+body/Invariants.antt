use Rattle.std.proofs.Common.{◌+◌, ◌*◌, map}
use Rattle.text_reader.specs.Grammar.{rep}
use Rattle.text_reader.specs.Moving.{weight}
use Rattle.text_reader.proofs.Steps.{left_of}
use Rattle.text_reader.proofs.Turns.{Turning, Each}
use Rattle.text_productions.specs.Productions as grammar
use Rattle.text_productions.specs.Nodes as node
use Rattle.text_productions.proofs.Fits.{K}
use Rattle.est_grammar.proofs.body.+body.Given as goal

abbrev pub invariant-body_parts-loop-reader : goal.invariant-body_parts-loop-reader
invariant-body_parts-loop-reader l = Turning K (rep grammar.body_part) (rep grammar.body_part)
    l.fn.reader (Each K (map node.a_body_part l.items)) l.reader

abbrev pub decreases-body_parts-loop-reader : goal.decreases-body_parts-loop-reader
decreases-body_parts-loop-reader l = left_of l.reader

abbrev pub decreases-body : goal.decreases-body
decreases-body l = weight l.reader.now * 5 + 0

abbrev pub decreases-common : goal.decreases-common
decreases-common l = weight l.reader.now * 5 + 1

abbrev pub decreases-body_part : goal.decreases-body_part
decreases-body_part l = weight l.reader.now * 5 + 2

abbrev pub decreases-body_parts : goal.decreases-body_parts
decreases-body_parts l = weight l.reader.now * 5 + 3
