use Rattle.std.proofs.Common.{[]}
use Rattle.text_printer.proofs.SpelledWords.{symbol_within, symbol_listed}
use Rattle.text_printer.proofs.spelling.symbol_spelling.Goals as goal

pub spelling_at-requires : goal.spelling_at-requires
spelling_at-requires c = symbol_within c.args.symbol

pub returns : goal.returns
returns c = rw c.spelling_at.ensures (symbol_listed c.args.symbol [])
