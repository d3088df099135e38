use Rattle.std.proofs.Common.{refl}
use Rattle.text_reader.proofs.Going.{then, last, rule_goes, part}
use Rattle.text_productions.proofs.Fits.{K}
use Rattle.est_grammar.proofs.Made as made
use Rattle.est_grammar.proofs.transition.transition.Goals as goal

pub returns : goal.returns
returns c = part (made.transition_made _ _ _)
    (rule_goes K (then K refl c.clauses-clauses.ensures (then K refl c.transition_name-name.ensures
    (then K refl c.block-block.ensures (last K c.symbol.ensures)))))
