use Rattle.text_reader.proofs.Going.{take, rule_goes, part}
use Rattle.text_productions.proofs.Fits.{K}
use Rattle.est_grammar.proofs.Made as made
use Rattle.est_grammar.proofs.transition.transpart.Goals as goal

pub returns : goal.returns
returns c = part (made.group_made _)
    (rule_goes K (take K c.word.ensures c.transitions-transitions.ensures))
