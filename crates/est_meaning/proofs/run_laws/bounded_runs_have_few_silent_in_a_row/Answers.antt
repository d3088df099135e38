use Rattle.est_meaning.proofs.SilenceLaws.{few_in_a_row}
use Rattle.est_meaning.proofs.run_laws.bounded_runs_have_few_silent_in_a_row.Goals as goal

pub returns : goal.returns
returns c = few_in_a_row
