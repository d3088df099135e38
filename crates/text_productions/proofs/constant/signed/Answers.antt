use Rattle.std.proofs.Common.{refl, [], ◌∷◌}
use Rattle.est_lexer.specs.declared.kind.Symbol.TheVariants as symbols
use Rattle.est_lexer.specs.declared.kind.TokenKind.TheVariants.{Identifier, Symbol}
use Rattle.text_reader.specs.Tests.{kind}
use Rattle.text_reader.proofs.Going.{then, here_goes, chosen, first_else}
use Rattle.text_reader.proofs.Single.{name_goes, value_goes}
use Rattle.text_reader.proofs.Seen.{chosen_by}
use Rattle.text_productions.proofs.Fits.{K}
use Rattle.text_productions.proofs.constant.signed.Goals as goal

pub returns-then-sees : goal.returns-then-sees
returns-then-sees c =
    here_goes K (chosen_by K 1 (kind (Symbol symbols.Plus) ∷ kind (Symbol symbols.Minus) ∷ [])
    refl c.requires (then K refl c.plus_or_minus-sign.ensures (chosen K 1 (kind Identifier) refl
    c.if-sees.ensures (name_goes K c.name-name.ensures))))

pub returns : goal.returns
returns c = here_goes K (chosen_by K 1 (kind (Symbol symbols.Plus) ∷ kind (Symbol symbols.Minus)
    ∷ []) refl c.requires (then K refl c.plus_or_minus-sign.ensures
    (first_else K (kind Identifier ∷ []) refl refl refl refl (c.if-sees.ensures, tt)
    (value_goes K c.value-number.ensures))))
