use Rattle.std.proofs.Common.{map}
use Rattle.text_reader.specs.Grammar.{rep, alt}
use Rattle.text_reader.specs.Shown.{nodes}
use Rattle.text_reader.proofs.Steps.{left_of}
use Rattle.text_reader.proofs.Turns.{Turning, Sections}
use Rattle.text_productions.specs.Productions as grammar
use Rattle.text_productions.specs.Nodes as node
use Rattle.text_productions.proofs.Fits.{K}
use Rattle.text_productions.proofs.header.sections.Given as goal

abbrev pub invariant-loop-reader : goal.invariant-loop-reader
invariant-loop-reader l = Turning K (rep (alt grammar.points grammar.exports))
    (rep (alt grammar.points grammar.exports)) l.fn.reader
    (Sections K nodes nodes (map node.a_point l.points) (map node.an_export l.exports)) l.reader

abbrev pub decreases-loop-reader : goal.decreases-loop-reader
decreases-loop-reader l = left_of l.reader
