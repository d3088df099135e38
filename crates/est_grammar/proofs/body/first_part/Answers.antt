use Rattle.std.proofs.Common.{refl, sym, [], ◌∷◌}
use Rattle.est_lexer.specs.declared.kind.ReservedWord.TheVariants as words
use Rattle.est_lexer.specs.declared.kind.TokenKind.TheVariants.{Reserved}
use Rattle.text_reader.specs.Tests.{kind}
use Rattle.text_reader.proofs.Going.{take, then, last, opt_in, opt_out}
use Rattle.text_reader.proofs.Seen.{goes_is}
use Rattle.text_productions.proofs.Fits.{K}
use Rattle.est_grammar.proofs.Made as made
use Rattle.est_grammar.proofs.body.first_part.Goals as goal

pub returns-then-not-sees : goal.returns-then-not-sees
returns-then-not-sees c = opt_out K (kind (Reserved words.Initialize) ∷ []) refl refl
    (c.if-not-sees.ensures, tt)

pub returns : goal.returns
returns c = goes_is (sym (made.first_part_made _ _)) (opt_in K (kind (Reserved words.Initialize))
    refl refl c.if-not-sees.ensures (take K c.word.ensures (then K refl c.first_state-to.ensures
    (then K refl c.block-block.ensures (last K c.symbol.ensures)))))
