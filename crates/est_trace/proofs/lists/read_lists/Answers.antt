use Rattle.est_trace.proofs.ListAnswers.{lists_answered, lists_refused}
use Rattle.est_trace.proofs.lists.read_lists.Goals as goal

pub returns : goal.returns
returns c = lists_answered c.lists_in-found.result c.requires c.lists_in-found.ensures
    c.new-reader.ensures c.in_ok-whole.ensures

pub returns-in_err-whole : goal.returns-in_err-whole
returns-in_err-whole c = lists_refused c.lists_in-found.result c.requires
    c.lists_in-found.ensures c.new-reader.ensures c.in_err-whole.field-0.0 _
    c.in_err-whole.ensures c.from_residual.ensures
