use Rattle.est_lexer.proofs.Unique.{tokens_unique}
use Rattle.est_lexer.proofs.laws.token_list_is_unique.Goals as goal

pub returns : goal.returns
returns c = λ text xs ys p q. tokens_unique text 0 xs ys p q
