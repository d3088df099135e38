use Rattle.std.proofs.Common.{ap, ◌∙◌, Option, unwrap_or}
use Rattle.est_lexer.specs.Words.{words}
use Rattle.est_lexer.specs.Spellings.{word_kind}
use Rattle.est_lexer.specs.declared.kind.TokenKind.{TokenKind}
use Rattle.est_lexer.specs.declared.kind.TokenKind.TheVariants.{Identifier}
use Rattle.est_lexer.proofs.table.word_or_identifier.Goals as goal

pub returns : goal.returns
unfolding word_kind words
returns c = c.unwrap_or.ensures ∙ ap (λ (kind : Option TokenKind). unwrap_or kind Identifier)
    c.find_by_letter.ensures
