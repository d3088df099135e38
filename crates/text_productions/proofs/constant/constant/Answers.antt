use Rattle.std.proofs.Common.{refl, [], ◌∷◌}
use Rattle.est_lexer.specs.declared.kind.TokenKind.TheVariants.{Identifier}
use Rattle.text_reader.specs.Tests.{kind}
use Rattle.text_reader.proofs.Going.{rule_goes, here_goes, part, chosen, first_else}
use Rattle.text_reader.proofs.Single.{name_goes}
use Rattle.text_reader.proofs.Seen.{goes_as}
use Rattle.text_productions.proofs.Fits.{K}
use Rattle.text_productions.proofs.Made as made
use Rattle.text_productions.proofs.constant.constant.Goals as goal

pub returns-then-not-sees : goal.returns-then-not-sees
returns-then-not-sees c =
    part refl (rule_goes K (goes_as (made.unnamed_constant _) (first_else K (kind Identifier ∷ [])
    refl refl refl refl (c.if-not-sees.ensures, tt) c.unnamed.ensures)))

pub returns : goal.returns
returns c = part refl (rule_goes K (chosen K 1 (kind Identifier) refl c.if-not-sees.ensures
    (here_goes K (name_goes K c.name-name.ensures))))
