use Rattle.est_explanation.proofs.ReadBack.{canonical_is_text, answered}
use Rattle.est_explanation.proofs.laws.what_is_written_is_read.Goals as goal

pub returns : goal.returns
returns c = record { texts = canonical_is_text; answers = answered }
