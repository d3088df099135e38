-- A frame has what is written, and what it had under other names.
use Rattle.mean_blocks.proofs.FirstChanged.{written_found, names_stay}
use Rattle.mean_blocks.proofs.laws.frames_keep_other_names.Goals as goal

pub returns-clause-written : goal.returns-clause-written
returns-clause-written c = written_found

pub returns-clause-others : goal.returns-clause-others
returns-clause-others c = names_stay
