use Rattle.std.proofs.Common.{refl}
use Rattle.text_reader.proofs.Going.{goes_still, opt_out, filled}
use Rattle.text_reader.proofs.Steps.{still_here}
use Rattle.text_reader.proofs.Seen.{opt_in_by}
use Rattle.text_productions.specs.Nodes as node
use Rattle.text_productions.specs.Tokens as tokens
use Rattle.text_productions.proofs.Fits.{K}
use Rattle.est_grammar.proofs.statement.path.Goals as goal

pub returns-then-sees_selector : goal.returns-then-sees_selector
returns-then-sees_selector c = goes_still (opt_in_by K tokens.selector_tokens refl refl
    c.if-sees_selector.ensures c.selectors.ensures) still_here (λ w. let f = filled node.a_selector
    _ c.selectors.ensures w in rw f.2 refl)

pub returns : goal.returns
returns c = rw c.new.ensures (opt_out K tokens.selector_tokens refl refl c.if-sees_selector.ensures)
