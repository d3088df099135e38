use Rattle.est_lexer.specs.Offsets.{text_of, tokens_of}
use Rattle.advice_tokens.proofs.Beginnings.{whole, early}
use Rattle.advice_tokens.proofs.wanted.is_beginning.Goals as goal

pub returns-in-Ok : goal.returns-in-Ok
returns-in-Ok c = λ _. whole c.args.text.now (text_of c.in_ok-tokens.tokens)
    (tokens_of c.in_ok-tokens.tokens) c.in-Ok.tree c.in_ok-tokens.ensures.same_text
    c.in_ok-tokens.ensures.tokens c.in-Ok.ensures.tree

pub returns : goal.returns
returns c = early c.args.text.now (text_of c.in_ok-tokens.tokens)
    (tokens_of c.in_ok-tokens.tokens) c.in-Err.error c.is_early.result
    c.in_ok-tokens.ensures.same_text c.in_ok-tokens.ensures.tokens c.in-Err.ensures.refused
    c.is_early.ensures
