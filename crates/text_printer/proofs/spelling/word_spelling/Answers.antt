use Rattle.std.proofs.Common.{[]}
use Rattle.text_printer.proofs.SpelledWords.{word_within, word_listed}
use Rattle.text_printer.proofs.spelling.word_spelling.Goals as goal

pub spelling_at-requires : goal.spelling_at-requires
spelling_at-requires c = word_within c.args.word

pub returns : goal.returns
returns c = rw c.spelling_at.ensures (word_listed c.args.word [])
