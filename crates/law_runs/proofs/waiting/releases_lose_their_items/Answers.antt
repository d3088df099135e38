use Rattle.law_runs.proofs.CountedItems.{releases_lose_their_items}
use Rattle.law_runs.proofs.waiting.releases_lose_their_items.Goals as goal

pub returns : goal.returns
returns c = releases_lose_their_items
