use Rattle.est_ports.specs.inside.Walk.{AddsArrivals}
use Rattle.est_ports.proofs.turn.add_arrivals.Given as goal

abbrev pub invariant-loop-port : goal.invariant-loop-port
invariant-loop-port l = AddsArrivals l.lists l.rest l.port l.initial.into.items l.into.items
