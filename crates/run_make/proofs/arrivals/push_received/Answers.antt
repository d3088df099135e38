use Rattle.std.proofs.Common.{◌∙◌, ap}
use Rattle.est_syntax.specs.declared.ports.Signal.{Signal}
use Rattle.run_make.specs.declared.arrivals.Arrival.{Arrival}
use Rattle.run_make.proofs.Receiving.{received_here, received_later}
use Rattle.run_make.proofs.arrivals.push_received.Goals.{then-signals-i+in_ok-signal+in_ok-push}
use Rattle.run_make.proofs.arrivals.push_received.Goals.{else-signals-i}
use Rattle.run_make.proofs.arrivals.push_received.Goals as goal

pub loop-i-preserved : goal.loop-i-preserved
loop-i-preserved c =
    let port = c.args.port in
    let xs = c.as_slice-signals.result.now in
    let i = c.loop-i.i in
    let x = c.index-signals-i.result in
    let into = c.loop-i.into.items in
    let more = c.if-signals-i.into.items in
    elim c.if-signals-i.branch [
      | then-signals-i+in_ok-signal+in_ok-push w ↦
          received_here port i xs x into more
          (record { port = port; signal = w.in_ok-signal.signal })
          c.loop-i-test.true c.index-signals-i.is
          (ap (λ (y : Signal). y.receives) c.index-signals-i.is ∙ w.if-signals-i.true)
          (ap (λ v. v.items) w.into-is ∙ w.in_ok-push.ensures.items)
          (ap (λ n. let a : Arrival = record { port = port; signal = n } in a)
          w.in_ok-signal.ensures.ok) ∙ c.loop-i.invariant
      | else-signals-i w ↦
          received_later port i xs x into more c.loop-i-test.true c.index-signals-i.is
          (ap (λ (y : Signal). y.receives) c.index-signals-i.is ∙ w.if-signals-i.false)
          (ap (λ v. v.items) w.into-is) ∙ c.loop-i.invariant
    ]
