use Rattle.std.proofs.Common.{refl, sym, [], ◌∷◌}
use Rattle.est_lexer.specs.declared.kind.TokenKind.TheVariants.{Identifier}
use Rattle.text_reader.specs.Tests.{kind}
use Rattle.text_reader.proofs.Going.{take, then, rule_goes, first_else}
use Rattle.text_reader.proofs.Seen.{goes_as, goes_is}
use Rattle.text_productions.proofs.Fits.{K}
use Rattle.text_productions.proofs.Made as made
use Rattle.text_productions.proofs.type_text.shorttype.Goals as goal

pub returns : goal.returns
returns c = goes_is (sym (made.range_made _ _))
    (rule_goes K (goes_as (made.unnamed_range _ _) (first_else K (kind Identifier ∷ []) refl refl
    refl refl (c.if-sees.ensures, tt) (then K refl c.unnamed-low.ensures
    (take K c.symbol.ensures c.constant-high.ensures)))))
