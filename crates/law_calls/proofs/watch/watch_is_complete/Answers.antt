use Rattle.law_calls.proofs.WatchComplete.{watch_complete}
use Rattle.law_calls.proofs.watch.watch_is_complete.Goals as goal

pub returns : goal.returns
returns c = watch_complete
