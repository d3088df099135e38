use Rattle.call_files.proofs.ReadLaws.{reads_refused, said_then}
use Rattle.call_files.proofs.specification.specification_of.Goals as goal

pub returns : goal.returns
returns c =
    reads_refused c.said_of.result c.refuse.result c.in_ok-tokens.ensures.same_text c.requires
    c.in_ok-tokens.ensures.tokens
    (said_then c.said_of.result (λ r says. (c.in-Err.error, c.in-Err.ensures, says))
    c.said_of.ensures.said) c.refuse.ensures.said c.refuse.ensures.unsaid
