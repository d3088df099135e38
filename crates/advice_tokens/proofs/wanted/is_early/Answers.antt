use Rattle.std.proofs.Common.{◌≤◌, leb-true, subst}
use Rattle.est_lexer.specs.Offsets.{text_of, tokens_of}
use Rattle.est_grammar.specs.Answer.{IsRefusal}
use Rattle.advice_tokens.proofs.Beginnings.{at_end}
use Rattle.advice_tokens.proofs.wanted.is_early.Goals as goal

pub returns-in-BadToken : goal.returns-in-BadToken
returns-in-BadToken c = λ t h. at_end (text_of c.args.tokens.now) (tokens_of c.args.tokens.now)
    c.in-BadToken.place
    (subst (λ n. n ≤ c.in-BadToken.place) c.count.ensures
    (leb-true c.count.result c.in-BadToken.place t))
    (subst (IsRefusal (text_of c.args.tokens.now) (tokens_of c.args.tokens.now)) c.in-BadToken.is
    h)
