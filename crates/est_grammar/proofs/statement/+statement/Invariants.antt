use Rattle.std.proofs.Common.{◌+◌, ◌*◌, map}
use Rattle.est_lexer.specs.declared.kind.Symbol.TheVariants as symbols
use Rattle.est_lexer.specs.declared.kind.TokenKind.TheVariants.{Symbol}
use Rattle.text_reader.specs.Grammar.{rule, rep, ended}
use Rattle.text_reader.specs.Tests.{kind}
use Rattle.text_reader.specs.Moving.{weight}
use Rattle.text_reader.proofs.Steps.{left_of}
use Rattle.text_reader.proofs.Turns.{Turning, Each}
use Rattle.text_productions.specs.Productions as grammar
use Rattle.text_productions.specs.Nodes as node
use Rattle.text_productions.proofs.Fits.{K}
use Rattle.est_grammar.proofs.statement.+statement.Given as goal

abbrev pub invariant-statements-loop-reader : goal.invariant-statements-loop-reader
invariant-statements-loop-reader l = Turning K (grammar.separated symbols.Semicolon
    (rule grammar.statement)) (rep (grammar.symbol symbols.Semicolon (rule grammar.statement)))
    l.fn.reader (Each K (map node.a_statement l.items)) l.reader

abbrev pub decreases-statements-loop-reader : goal.decreases-statements-loop-reader
decreases-statements-loop-reader l = left_of l.reader

abbrev pub invariant-arms-loop-reader : goal.invariant-arms-loop-reader
invariant-arms-loop-reader l = Turning K grammar.arms (ended (kind (Symbol symbols.Semicolon))
    (rule grammar.arm)) l.fn.reader (Each K (map node.an_arm l.items)) l.reader

abbrev pub decreases-arms-loop-reader : goal.decreases-arms-loop-reader
decreases-arms-loop-reader l = left_of l.reader

abbrev pub decreases-compound : goal.decreases-compound
decreases-compound l = weight l.reader.now * 14 + 0

abbrev pub decreases-if_statement : goal.decreases-if_statement
decreases-if_statement l = weight l.reader.now * 14 + 1

abbrev pub decreases-case_statement : goal.decreases-case_statement
decreases-case_statement l = weight l.reader.now * 14 + 2

abbrev pub decreases-while_statement : goal.decreases-while_statement
decreases-while_statement l = weight l.reader.now * 14 + 3

abbrev pub decreases-repeat_statement : goal.decreases-repeat_statement
decreases-repeat_statement l = weight l.reader.now * 14 + 4

abbrev pub decreases-for_statement : goal.decreases-for_statement
decreases-for_statement l = weight l.reader.now * 14 + 5

abbrev pub decreases-all_statement : goal.decreases-all_statement
decreases-all_statement l = weight l.reader.now * 14 + 6

abbrev pub decreases-loop_statement : goal.decreases-loop_statement
decreases-loop_statement l = weight l.reader.now * 14 + 7

abbrev pub decreases-statement : goal.decreases-statement
decreases-statement l = weight l.reader.now * 14 + 8

abbrev pub decreases-else_part : goal.decreases-else_part
decreases-else_part l = weight l.reader.now * 14 + 9

abbrev pub decreases-arm : goal.decreases-arm
decreases-arm l = weight l.reader.now * 14 + 10

abbrev pub decreases-arms : goal.decreases-arms
decreases-arms l = weight l.reader.now * 14 + 11

abbrev pub decreases-statements : goal.decreases-statements
decreases-statements l = weight l.reader.now * 14 + 12
