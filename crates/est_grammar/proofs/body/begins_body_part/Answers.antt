use Rattle.text_productions.specs.Tokens as tokens
use Rattle.est_grammar.proofs.Made as made
use Rattle.text_reader.proofs.Seen.{seen_first}
use Rattle.est_grammar.proofs.body.begins_body_part.Goals as goal

pub returns-then-begins_own : goal.returns-then-begins_own
returns-then-begins_own c = seen_first _ tokens.own_tokens tokens.common_tokens
    c.if-begins_own.ensures

pub returns : goal.returns
returns c = made.seen_after _ tokens.own_tokens tokens.common_tokens _ c.if-begins_own.ensures
    c.begins_common.ensures
