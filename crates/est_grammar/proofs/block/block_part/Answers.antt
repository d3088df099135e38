use Rattle.std.proofs.Common.{refl, [], ◌∷◌}
use Rattle.est_lexer.specs.declared.kind.ReservedWord.TheVariants as words
use Rattle.est_lexer.specs.declared.kind.TokenKind.TheVariants.{Reserved}
use Rattle.text_reader.specs.Tests.{kind}
use Rattle.text_reader.proofs.Going.{part, chosen, first_else}
use Rattle.text_productions.specs.Nodes as node
use Rattle.text_productions.proofs.Fits.{K}
use Rattle.est_grammar.proofs.Made as made
use Rattle.est_grammar.proofs.block.block_part.Goals as goal

pub returns-then-sees : goal.returns-then-sees
returns-then-sees c = part (made.types_made node.block_part _)
    (chosen K 1 (kind (Reserved words.Type)) refl c.if-sees.ensures c.types.ensures)

pub returns-then-sees-2 : goal.returns-then-sees-2
returns-then-sees-2 c = part (made.vars_made node.block_part _)
    (chosen K 2 (kind (Reserved words.Var)) refl c.if-sees-2.ensures c.vars.ensures)

pub returns : goal.returns
returns c = part (made.consts_made node.block_part _)
    (first_else K (kind (Reserved words.Type) ∷ kind (Reserved words.Var) ∷ []) refl refl refl refl
    (c.if-sees.ensures, (c.if-sees-2.ensures, tt)) c.consts.ensures)
