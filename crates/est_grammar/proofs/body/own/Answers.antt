use Rattle.std.proofs.Common.{refl, sym, [], ◌∷◌}
use Rattle.est_lexer.specs.declared.kind.ReservedWord.TheVariants as words
use Rattle.est_lexer.specs.declared.kind.TokenKind.TheVariants.{Reserved}
use Rattle.text_reader.specs.Tests.{kind}
use Rattle.text_reader.proofs.Going.{take, then, last, rule_goes, chosen, first_else}
use Rattle.text_reader.proofs.Seen.{goes_is}
use Rattle.text_productions.specs.Nodes as node
use Rattle.text_productions.proofs.Fits.{K}
use Rattle.est_grammar.proofs.Made as made
use Rattle.est_grammar.proofs.body.own.Goals as goal

pub returns-then-sees : goal.returns-then-sees
returns-then-sees c = goes_is (sym (made.vars_made node.own_part _))
    (rule_goes K (chosen K 1 (kind (Reserved words.Var)) refl c.if-sees.ensures c.vars.ensures))

pub returns-then-sees-2 : goal.returns-then-sees-2
returns-then-sees-2 c = goes_is (sym (made.states_made node.own_part _))
    (rule_goes K (chosen K 2 (kind (Reserved words.State)) refl c.if-sees-2.ensures
    (take K c.word.ensures (then K refl c.idents-names.ensures (last K c.symbol.ensures)))))

pub returns-then-sees-3 : goal.returns-then-sees-3
returns-then-sees-3 c = goes_is (sym (made.state_sets_made node.own_part _))
    (rule_goes K (chosen K 3 (kind (Reserved words.Stateset)) refl c.if-sees-3.ensures
    c.statesets.ensures))

pub returns : goal.returns
returns c = goes_is (sym (made.points_made node.own_part _))
    (rule_goes K (first_else K (kind (Reserved words.Var) ∷ kind (Reserved words.State) ∷ kind
    (Reserved words.Stateset) ∷ []) refl refl refl refl
    (c.if-sees.ensures, (c.if-sees-2.ensures, (c.if-sees-3.ensures, tt))) c.points.ensures))
