-- An outline that has grown is later.
use Rattle.law_places.proofs.WhatStays.{later_in_order, grown_later}
use Rattle.law_places.proofs.laws.grown_is_later.Goals as goal

pub returns-clause-order : goal.returns-clause-order
returns-clause-order c = later_in_order

pub returns-clause-grown : goal.returns-clause-grown
returns-clause-grown c = grown_later
