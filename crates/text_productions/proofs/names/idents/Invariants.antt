use Rattle.std.proofs.Common.{map}
use Rattle.est_lexer.specs.declared.kind.Symbol.TheVariants as symbols
use Rattle.text_reader.specs.Grammar.{rep}
use Rattle.text_reader.proofs.Steps.{left_of}
use Rattle.text_reader.proofs.Turns.{Turning, Each}
use Rattle.text_productions.specs.Productions as grammar
use Rattle.text_productions.specs.Nodes as node
use Rattle.text_productions.proofs.Fits.{K}
use Rattle.text_reader.specs.Going.{identifier}
use Rattle.text_productions.proofs.names.idents.Given as goal

abbrev pub invariant-loop-reader : goal.invariant-loop-reader
invariant-loop-reader l = Turning K grammar.idents (rep (grammar.symbol symbols.Comma identifier))
    l.fn.reader (Each K (map node.a_use l.items)) l.reader

abbrev pub decreases-loop-reader : goal.decreases-loop-reader
decreases-loop-reader l = left_of l.reader
