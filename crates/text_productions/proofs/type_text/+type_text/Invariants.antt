use Rattle.std.proofs.Common.{◌+◌, ◌*◌, map}
use Rattle.est_lexer.specs.declared.kind.Symbol.TheVariants as symbols
use Rattle.est_lexer.specs.declared.kind.TokenKind.TheVariants.{Symbol}
use Rattle.text_reader.specs.Grammar.{rule, rep, ended}
use Rattle.text_reader.specs.Tests.{kind}
use Rattle.text_reader.specs.Moving.{weight}
use Rattle.text_reader.proofs.Steps.{left_of}
use Rattle.text_reader.proofs.Turns.{Turning, Each}
use Rattle.text_productions.specs.Productions as grammar
use Rattle.text_productions.specs.Nodes as node
use Rattle.text_productions.proofs.Fits.{K}
use Rattle.text_productions.proofs.type_text.+type_text.Given as goal

abbrev pub invariant-typetexts-loop-reader : goal.invariant-typetexts-loop-reader
invariant-typetexts-loop-reader l = Turning K (grammar.separated symbols.Comma
    (rule grammar.typetext)) (rep (grammar.symbol symbols.Comma (rule grammar.typetext)))
    l.fn.reader (Each K (map node.a_type l.items)) l.reader

abbrev pub decreases-typetexts-loop-reader : goal.decreases-typetexts-loop-reader
decreases-typetexts-loop-reader l = left_of l.reader

abbrev pub invariant-fields-loop-reader : goal.invariant-fields-loop-reader
invariant-fields-loop-reader l = Turning K grammar.fields (ended (kind (Symbol symbols.Semicolon))
    grammar.field) l.fn.reader (Each K (map node.a_field l.items)) l.reader

abbrev pub decreases-fields-loop-reader : goal.decreases-fields-loop-reader
decreases-fields-loop-reader l = left_of l.reader

abbrev pub decreases-arraytype : goal.decreases-arraytype
decreases-arraytype l = weight l.reader.now * 10 + 0

abbrev pub decreases-recordtype : goal.decreases-recordtype
decreases-recordtype l = weight l.reader.now * 10 + 1

abbrev pub decreases-settype : goal.decreases-settype
decreases-settype l = weight l.reader.now * 10 + 2

abbrev pub decreases-structure : goal.decreases-structure
decreases-structure l = weight l.reader.now * 10 + 3

abbrev pub decreases-structured : goal.decreases-structured
decreases-structured l = weight l.reader.now * 10 + 4

abbrev pub decreases-typetext : goal.decreases-typetext
decreases-typetext l = weight l.reader.now * 10 + 5

abbrev pub decreases-typetexts : goal.decreases-typetexts
decreases-typetexts l = weight l.reader.now * 10 + 6

abbrev pub decreases-field : goal.decreases-field
decreases-field l = weight l.reader.now * 10 + 7

abbrev pub decreases-fields : goal.decreases-fields
decreases-fields l = weight l.reader.now * 10 + 8
