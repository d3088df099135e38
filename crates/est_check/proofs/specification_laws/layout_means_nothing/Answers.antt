use Rattle.est_check.proofs.SameAnswer.{layout_means_nothing, stays}
use Rattle.est_check.proofs.specification_laws.layout_means_nothing.Goals as goal

pub returns-clause-layout : goal.returns-clause-layout
returns-clause-layout c = layout_means_nothing

pub returns-clause-rest : goal.returns-clause-rest
returns-clause-rest c = stays
