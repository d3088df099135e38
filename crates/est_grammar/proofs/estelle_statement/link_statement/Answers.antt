use Rattle.std.proofs.Common.{refl, ◌∷◌}
use Rattle.est_lexer.specs.declared.kind.ReservedWord.TheVariants as words
use Rattle.est_lexer.specs.declared.kind.TokenKind.TheVariants.{Reserved}
use Rattle.text_reader.specs.Tests.{kind}
use Rattle.text_reader.proofs.Going.{rule_goes, here_goes, part, opt_out}
use Rattle.text_productions.specs.Tokens as tokens
use Rattle.text_productions.proofs.Fits.{K}
use Rattle.est_grammar.proofs.Made as made
use Rattle.est_grammar.proofs.estelle_statement.link_statement.Goals as goal

pub returns : goal.returns
returns c = part (made.empty_made _)
    (rule_goes K (here_goes K
    (opt_out K (kind (Reserved words.Connect) ∷ kind (Reserved words.Disconnect) ∷ kind
    (Reserved words.Attach) ∷ kind (Reserved words.Detach) ∷ tokens.unlinked_tokens) refl refl (
      c.if-sees.ensures,
      (
        c.if-sees-2.ensures,
        (c.if-sees-3.ensures, (c.if-sees-4.ensures, c.requires)),
      ),
    ))))
