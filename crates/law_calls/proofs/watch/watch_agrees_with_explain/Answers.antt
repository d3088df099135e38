use Rattle.law_calls.proofs.WatchComplete.{watch_agrees}
use Rattle.law_calls.proofs.watch.watch_agrees_with_explain.Goals as goal

pub returns : goal.returns
returns c = watch_agrees
