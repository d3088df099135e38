-- A routine is closed where the whole outline says so.
use Rattle.law_places.proofs.ClosedWholes.{routines_closed}
use Rattle.law_places.proofs.laws.routines_are_closed.Goals as goal

pub returns : goal.returns
returns c = routines_closed
