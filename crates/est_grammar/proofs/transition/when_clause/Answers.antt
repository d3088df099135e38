use Rattle.std.proofs.Common.{refl}
use Rattle.est_lexer.specs.declared.kind.ReservedWord.TheVariants as words
use Rattle.est_lexer.specs.declared.kind.TokenKind.TheVariants.{Reserved}
use Rattle.text_reader.specs.Tests.{kind}
use Rattle.text_reader.proofs.Going.{take, then, rule_goes, here_goes, part, chosen}
use Rattle.text_reader.proofs.Single.{name_goes}
use Rattle.text_productions.proofs.Fits.{K}
use Rattle.est_grammar.proofs.transition.when_clause.Goals as goal

pub returns : goal.returns
returns c =
    part refl (rule_goes K (here_goes K (chosen K 2 (kind (Reserved words.When)) refl c.requires
    (take K c.word.ensures (then K refl c.access-at.ensures
    (take K c.symbol.ensures (name_goes K c.name-signal.ensures)))))))
