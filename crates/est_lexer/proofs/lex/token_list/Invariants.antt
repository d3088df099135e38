use Rattle.std.proofs.Common.{◌≤◌, ◌-◌, ◌++◌, List, length}
use Rattle.est_lexer.specs.TokenList.{AreTokensFrom}
use Rattle.est_lexer.specs.declared.kind.Token.{Token}
use Rattle.est_lexer.proofs.lex.token_list.Given as goal

abbrev pub invariant-loop-tokens : goal.invariant-loop-tokens
invariant-loop-tokens l = record {
  onward : (more : List Token) → AreTokensFrom l.text l.from more
      → AreTokensFrom l.text 0 (l.tokens.items ++ more);
  inside : l.from ≤ length l.text;
}

abbrev pub decreases-loop-tokens : goal.decreases-loop-tokens
decreases-loop-tokens l = length l.text - l.from
