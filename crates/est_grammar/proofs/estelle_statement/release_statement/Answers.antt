use Rattle.std.proofs.Common.{refl}
use Rattle.est_lexer.specs.declared.kind.ReservedWord.TheVariants as words
use Rattle.est_lexer.specs.declared.kind.TokenKind.TheVariants.{Reserved}
use Rattle.text_reader.specs.Tests.{kind}
use Rattle.text_reader.proofs.Going.{take, rule_goes, here_goes, part, opt_in, chosen}
use Rattle.text_productions.proofs.Fits.{K}
use Rattle.est_grammar.proofs.Made as made
use Rattle.est_grammar.proofs.estelle_statement.release_statement.Goals as goal

pub returns : goal.returns
returns c = part (made.release_made _ _)
    (rule_goes K (here_goes K (opt_in K (kind (Reserved words.Release)) refl refl c.requires
    (chosen K 10 (kind (Reserved words.Release)) refl c.requires
    (take K c.word.ensures c.access-target.ensures)))))
