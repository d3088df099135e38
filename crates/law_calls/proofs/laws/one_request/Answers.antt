use Rattle.law_calls.proofs.OneRequest.{request_one}
use Rattle.law_calls.proofs.laws.one_request.Goals as goal

pub returns : goal.returns
returns c = request_one
