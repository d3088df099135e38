use Rattle.std.proofs.Common.{refl}
use Rattle.est_lexer.specs.declared.kind.ReservedWord.TheVariants as words
use Rattle.est_lexer.specs.declared.kind.TokenKind.TheVariants.{Reserved}
use Rattle.text_reader.specs.Tests.{kind}
use Rattle.text_reader.proofs.Going.{take, then, rule_goes, here_goes, part, opt_in, chosen}
use Rattle.text_productions.proofs.Fits.{K}
use Rattle.est_grammar.proofs.Made as made
use Rattle.est_grammar.proofs.estelle_statement.attach_statement.Goals as goal

pub returns : goal.returns
returns c = part (made.attach_made _ _ _ _)
    (rule_goes K (here_goes K (opt_in K (kind (Reserved words.Attach)) refl refl c.requires
    (chosen K 13 (kind (Reserved words.Attach)) refl c.requires
    (take K c.word.ensures (then K refl c.access-own.ensures
    (take K c.word-2.ensures (then K refl c.access-child.ensures
    (take K c.symbol.ensures c.access-point.ensures)))))))))
