use Rattle.std.proofs.Common.{arith}
use Rattle.est_lexer.specs.TokenList.{IsTokenList}
use Rattle.est_lexer.proofs.TokenLaws.{tokens_inside, tokens_few, token_kinds}
use Rattle.est_lexer.proofs.lex.lex.Goals as goal

pub invariant_of-result : goal.invariant_of-result
invariant_of-result c =
    let tokens : IsTokenList c.args.text.now c.in_ok-list.list.items = c.in_ok-list.ensures in
    record {
      short = c.requires;
      few = omega (
        arith,
        tokens_few c.args.text.now 0 c.in_ok-list.list.items (omega arith)
            tokens,
      );
      inside = tokens_inside c.args.text.now 0 c.in_ok-list.list.items tokens;
      kinds = token_kinds c.args.text.now 0 c.in_ok-list.list.items tokens;
    }
