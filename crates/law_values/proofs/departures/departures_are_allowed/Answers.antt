use Rattle.law_values.proofs.AllowedDepartures.{fitting_departures_are_allowed}
use Rattle.law_values.proofs.AllowedDepartures.{what_is_taken_fits}
use Rattle.law_values.proofs.AllowedDepartures.{given_departures_are_allowed}
use Rattle.law_values.proofs.departures.departures_are_allowed.Goals as goal

pub returns-clause-fitting : goal.returns-clause-fitting
returns-clause-fitting c = fitting_departures_are_allowed

pub returns-clause-taken : goal.returns-clause-taken
returns-clause-taken c = what_is_taken_fits

pub returns-clause-given : goal.returns-clause-given
returns-clause-given c = given_departures_are_allowed
