use Rattle.std.proofs.Common.{rules}
use Rattle.est_lexer.specs.Words.{symbols}
use Rattle.est_lexer.proofs.SymbolBytes.{at_first, no_symbol_at}
use Rattle.est_lexer.proofs.table.single_symbol.Goals as goal

pub returns-in-61 : goal.returns-in-61
unfolding symbols
returns-in-61 c = λ b d. at_first c.args.first b d 61 c.in-61.is

pub returns-in-43 : goal.returns-in-43
unfolding symbols
returns-in-43 c = λ b d. at_first c.args.first b d 43 c.in-43.is

pub returns-in-45 : goal.returns-in-45
unfolding symbols
returns-in-45 c = λ b d. at_first c.args.first b d 45 c.in-45.is

pub returns-in-42 : goal.returns-in-42
unfolding symbols
returns-in-42 c = λ b d. at_first c.args.first b d 42 c.in-42.is

pub returns-in-40 : goal.returns-in-40
unfolding symbols
returns-in-40 c = λ b d. at_first c.args.first b d 40 c.in-40.is

pub returns-in-41 : goal.returns-in-41
unfolding symbols
returns-in-41 c = λ b d. at_first c.args.first b d 41 c.in-41.is

pub returns-in-91 : goal.returns-in-91
unfolding symbols
returns-in-91 c = λ b d. at_first c.args.first b d 91 c.in-91.is

pub returns-in-93 : goal.returns-in-93
unfolding symbols
returns-in-93 c = λ b d. at_first c.args.first b d 93 c.in-93.is

pub returns-in-44 : goal.returns-in-44
unfolding symbols
returns-in-44 c = λ b d. at_first c.args.first b d 44 c.in-44.is

pub returns-in-59 : goal.returns-in-59
unfolding symbols
returns-in-59 c = λ b d. at_first c.args.first b d 59 c.in-59.is

pub returns-in-95 : goal.returns-in-95
unfolding symbols
returns-in-95 c = λ b d. at_first c.args.first b d 95 c.in-95.is

pub returns-in-63 : goal.returns-in-63
unfolding symbols
returns-in-63 c = λ b d. at_first c.args.first b d 63 c.in-63.is

pub returns-in-94 : goal.returns-in-94
unfolding symbols
returns-in-94 c = λ b d. at_first c.args.first b d 94 c.in-94.is

pub returns-in-64 : goal.returns-in-64
unfolding symbols
returns-in-64 c = λ b d. at_first c.args.first b d 64 c.in-64.is

pub returns-in-47 : goal.returns-in-47
unfolding symbols
returns-in-47 c = λ b d. at_first c.args.first b d 47 c.in-47.is

pub returns-in_default : goal.returns-in_default
returns-in_default c = λ b d. no_symbol_at c.args.first b d c.requires (search rules)
