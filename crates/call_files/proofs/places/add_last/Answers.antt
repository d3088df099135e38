use Rattle.call_files.proofs.PlaceLaws.{AddsFile-push}
use Rattle.call_files.proofs.places.add_last.Goals as goal

pub returns-clause-ok : goal.returns-clause-ok
returns-clause-ok c = rw c.in_ok-push.ensures.items (AddsFile-push c.args.files.now.items
    c.args.file c.requires)
