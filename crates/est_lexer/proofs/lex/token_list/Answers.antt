use Rattle.std.proofs.Common.{arith}
use Rattle.est_lexer.proofs.TokenLaws.{list_ends, list_bad, list_next, longest_some}
use Rattle.est_lexer.proofs.Marks.{between_onward}
use Rattle.est_lexer.proofs.lex.token_list.Goals as goal

pub returns-then-start-text : goal.returns-then-start-text
returns-then-start-text c = list_ends _ _ _ _ c.loop-tokens.invariant.onward
    c.begin_from-start.ensures.between c.if-start-text.true

pub loop-tokens-smaller : goal.loop-tokens-smaller
loop-tokens-smaller c =
    let at = c.in-Ok.ensures in
    let some = longest_some _ _ at.longest in
    let onward = between_onward c.begin_from-start.ensures.between in
    omega (arith, at.starts, at.longest.inside)

pub loop-tokens-preserved : goal.loop-tokens-preserved
loop-tokens-preserved c = record {
  onward = list_next _ _ _ _ _ _ c.loop-tokens.invariant.onward c.begin_from-start.ensures.between
      c.in-Ok.ensures c.in_ok-push-in-Ok.ensures.items;
  inside = c.in-Ok.ensures.longest.inside;
}

pub returns-in-Err : goal.returns-in-Err
returns-in-Err c = list_bad _ _ _ _ _ _ c.loop-tokens.invariant.onward
    c.begin_from-start.ensures.between c.in-Err.ensures c.in_ok-push-in-Err.ensures.items
