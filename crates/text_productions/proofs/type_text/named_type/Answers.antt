use Rattle.std.proofs.Common.{refl, sym, [], ◌∷◌}
use Rattle.est_lexer.specs.declared.kind.Symbol.TheVariants as symbols
use Rattle.est_lexer.specs.declared.kind.TokenKind.TheVariants.{Identifier, Symbol}
use Rattle.text_reader.specs.Tests.{kind}
use Rattle.text_reader.proofs.Going.{take, then, rule_goes, here_goes, opt_in, opt_out, chosen}
use Rattle.text_reader.proofs.Single.{name_goes}
use Rattle.text_reader.proofs.Seen.{goes_is}
use Rattle.text_productions.proofs.Fits.{K}
use Rattle.text_productions.proofs.Made as made
use Rattle.text_productions.proofs.type_text.named_type.Goals as goal

pub returns-then-not-sees : goal.returns-then-not-sees
returns-then-not-sees c = goes_is (made.named_at c.name-name.ensures)
    (rule_goes K (chosen K 1 (kind Identifier) refl c.requires
    (here_goes K (then K refl (name_goes K c.name-name.ensures)
    (opt_out K (kind (Symbol symbols.DoublePeriod) ∷ []) refl refl (c.if-not-sees.ensures, tt))))))

pub returns : goal.returns
returns c = goes_is (sym (made.range_made _ _))
    (rule_goes K (chosen K 1 (kind Identifier) refl c.requires
    (here_goes K (then K refl (name_goes K c.name-name.ensures)
    (opt_in K (kind (Symbol symbols.DoublePeriod)) refl refl c.if-not-sees.ensures
    (take K c.symbol.ensures c.constant-high.ensures))))))
