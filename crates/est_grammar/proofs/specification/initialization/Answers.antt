use Rattle.std.proofs.Common.{refl}
use Rattle.text_reader.proofs.Going.{take, then, last, here_goes}
use Rattle.text_reader.proofs.Seen.{goes_is}
use Rattle.text_productions.proofs.Fits.{K}
use Rattle.est_grammar.proofs.Made as made
use Rattle.est_grammar.proofs.specification.initialization.Goals as goal

pub returns : goal.returns
returns c = goes_is (made.initialized c.init-first.ensures)
    (take K c.word.ensures (take K c.word-2.ensures
    (then K refl (here_goes K c.init-first.ensures.goes) (then K refl c.after_semicolon.ensures
    (take K c.word-3.ensures
    (take K c.symbol.ensures (take K c.word-4.ensures (last K c.symbol-2.ensures))))))))
