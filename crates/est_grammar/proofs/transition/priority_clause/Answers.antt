use Rattle.std.proofs.Common.{refl}
use Rattle.est_lexer.specs.declared.kind.ReservedWord.TheVariants as words
use Rattle.est_lexer.specs.declared.kind.TokenKind.TheVariants.{Reserved}
use Rattle.text_reader.specs.Tests.{kind}
use Rattle.text_reader.proofs.Going.{take, rule_goes, here_goes, part, chosen}
use Rattle.text_productions.proofs.Fits.{K}
use Rattle.est_grammar.proofs.transition.priority_clause.Goals as goal

pub returns : goal.returns
returns c =
    part refl (rule_goes K (here_goes K (chosen K 5 (kind (Reserved words.Priority)) refl c.requires
    (take K c.word.ensures c.constant-value.ensures))))
