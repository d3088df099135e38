use Rattle.std.proofs.Common.{refl}
use Rattle.est_lexer.specs.declared.kind.Symbol.TheVariants as symbols
use Rattle.est_lexer.specs.declared.kind.TokenKind.TheVariants.{Symbol}
use Rattle.text_reader.specs.Tests.{kind}
use Rattle.text_reader.proofs.Going.{take, then, last, rule_goes, here_goes, part, chosen}
use Rattle.text_productions.proofs.Fits.{K}
use Rattle.text_productions.proofs.Made as made
use Rattle.text_productions.proofs.type_text.enumeration.Goals as goal

pub returns : goal.returns
returns c = part (made.names_made _ _)
    (rule_goes K (chosen K 1 (kind (Symbol symbols.LeftParenthesis)) refl c.requires
    (here_goes K (take K c.symbol.ensures (then K refl c.idents-names.ensures
    (last K c.symbol-2.ensures))))))
