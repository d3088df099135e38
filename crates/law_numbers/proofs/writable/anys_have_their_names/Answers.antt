use Rattle.law_numbers.proofs.NamedAnys.{anys_named}
use Rattle.law_numbers.proofs.writable.anys_have_their_names.Goals as goal

pub returns : goal.returns
returns c = anys_named
