use Rattle.est_meaning.proofs.AgreementLaws.{one_by_one}
use Rattle.est_meaning.proofs.run_laws.events_agree_one_by_one.Goals as goal

pub returns : goal.returns
returns c = one_by_one
