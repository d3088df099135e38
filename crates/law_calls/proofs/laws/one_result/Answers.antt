use Rattle.law_calls.proofs.OneResult.{result_one}
use Rattle.law_calls.proofs.laws.one_result.Goals as goal

pub returns : goal.returns
returns c = result_one
