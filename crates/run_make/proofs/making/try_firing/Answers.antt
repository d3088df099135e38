use Rattle.std.proofs.Common.{◌≡◌, ◌<◌, ◌+◌, length, vec_len, refl, arith}
use Rattle.run_make.specs.Words.{stream_at}
use Rattle.run_make.proofs.Turning.{some_left, chosen_firing, chosen_possible, guards_passed}
use Rattle.run_make.proofs.Turning.{fired_made, fault_made, limit_passed}
use Rattle.run_make.proofs.making.try_firing.Goals as goal

pub returns-in-Unsettled-clause-tried : goal.returns-in-Unsettled-clause-tried
returns-in-Unsettled-clause-tried g c spec speaks =
    let w = g.W.World in (
      guards_passed (w.limit c.args.world.now) c.args.silent spec c.args.making.now
          (w.stack c.args.world.now spec).now c.draw-word.result (stream_at c.draw-word.new.rng)
          c.options.new.into.items c.draw-word.ensures
          (c.asks_to_fire.ensures.0 c.if-not-asks_to_fire.false)
          (rw c.in-Unsettled.is at (c.in_ok-options.ensures.offers spec speaks)),
      record { run = refl; events = refl; idle = refl },
    )

pub fire-requires-clause-possible : goal.fire-requires-clause-possible
fire-requires-clause-possible g c spec speaks =
    let w = g.W.World in
    let firings = c.options.new.into.items in
    let many : c.len.result ≡ length firings =
    (let n = c.len.ensures in omega (arith, c.options.new.into.ok.0)) in
    let any : 0 < vec_len c.options.new.into = some_left _ c.if-is_empty.ensures in
    let some : 0 < c.len.result = (let n = c.len.ensures in omega arith) in
    let here = c.in_ok-options.ensures.keeps.backward spec speaks in
    chosen_possible (w.limit c.args.world.now) (w.limit c.options.new.self) spec
    (w.stack c.args.world.now spec) (w.stack c.options.new.self spec) firings c.index.result.now
    _ c.in_ok-options.ensures.keeps.limit_is (c.in_ok-options.ensures.stack spec here)
    (rw c.in-Settled.is at (c.in_ok-options.ensures.offers spec here))
    (chosen_firing firings c.draw-word.result c.len.result c.index.result.now many some
    c.index.ensures)

pub returns-in-Done-clause-tried : goal.returns-in-Done-clause-tried
returns-in-Done-clause-tried g c spec speaks =
    let w = g.W.World in
    let firings = c.options.new.into.items in
    let many : c.len.result ≡ length firings =
    (let n = c.len.ensures in omega (arith, c.options.new.into.ok.0)) in
    let any : 0 < vec_len c.options.new.into = some_left _ c.if-is_empty.ensures in
    let some : 0 < c.len.result = (let n = c.len.ensures in omega arith) in
    let asked = c.asks_to_fire.ensures.0 c.if-not-asks_to_fire.false in
    let there = c.in_ok-options.ensures.keeps.forward spec speaks in
    let offers = rw c.in-Settled.is at (c.in_ok-options.ensures.offers spec speaks) in
    let answer = rw c.in-Done.is at (c.in_ok-fire.ensures.answer spec there) in
    fired_made (w.limit c.args.world.now) c.args.silent spec c.args.making.now
    (w.stack c.args.world.now spec) c.draw-word.result (stream_at c.draw-word.new.rng) firings
    c.index.result.now c.draw-word.ensures (record { word = asked.0; few = asked.1 }) offers.1
    (chosen_firing firings c.draw-word.result c.len.result c.index.result.now many some
    c.index.ensures) (w.limit c.options.new.self) (w.stack c.options.new.self spec)
    (w.stack c.fire.new.self spec) c.in_ok-options.ensures.keeps.limit_is
    (c.in_ok-options.ensures.stack spec speaks)
    (record c.args.making.now { rng = c.draw-word.new.rng }) c.land.new.self
    c.fire.new.outs.items answer refl refl refl refl c.in_ok-land-in-Done.ensures

pub returns-in-Fault-clause-tried : goal.returns-in-Fault-clause-tried
returns-in-Fault-clause-tried g c spec speaks =
    let w = g.W.World in
    let firings = c.options.new.into.items in
    let many : c.len.result ≡ length firings =
    (let n = c.len.ensures in omega (arith, c.options.new.into.ok.0)) in
    let any : 0 < vec_len c.options.new.into = some_left _ c.if-is_empty.ensures in
    let some : 0 < c.len.result = (let n = c.len.ensures in omega arith) in
    let asked = c.asks_to_fire.ensures.0 c.if-not-asks_to_fire.false in
    let there = c.in_ok-options.ensures.keeps.forward spec speaks in
    let offers = rw c.in-Settled.is at (c.in_ok-options.ensures.offers spec speaks) in
    let answer = rw c.in-Fault.is at (c.in_ok-fire.ensures.answer spec there) in
    let old = c.args.making.now in
    fault_made (w.limit c.args.world.now) c.args.silent spec old
    (w.stack c.args.world.now spec) c.draw-word.result (stream_at c.draw-word.new.rng) firings
    c.index.result.now c.draw-word.ensures (record { word = asked.0; few = asked.1 }) offers.1
    (chosen_firing firings c.draw-word.result c.len.result c.index.result.now many some
    c.index.ensures) (w.limit c.options.new.self) (w.stack c.options.new.self spec)
    (w.stack c.fire.new.self spec) c.in_ok-options.ensures.keeps.limit_is
    (c.in_ok-options.ensures.stack spec speaks)
    (record c.args.making.now { rng = c.draw-word.new.rng; idle = c.args.making.now.idle + 1 })
    c.fire.new.outs.items c.in-Fault.field-0 answer refl refl refl refl

pub returns-clause-tried : goal.returns-clause-tried
returns-clause-tried g c spec speaks =
    let w = g.W.World in
    let firings = c.options.new.into.items in
    let many : c.len.result ≡ length firings =
    (let n = c.len.ensures in omega (arith, c.options.new.into.ok.0)) in
    let any : 0 < vec_len c.options.new.into = some_left _ c.if-is_empty.ensures in
    let some : 0 < c.len.result = (let n = c.len.ensures in omega arith) in
    let asked = c.asks_to_fire.ensures.0 c.if-not-asks_to_fire.false in
    let there = c.in_ok-options.ensures.keeps.forward spec speaks in
    let offers = rw c.in-Settled.is at (c.in_ok-options.ensures.offers spec speaks) in
    let answer = rw c.in-Limit.is at (c.in_ok-fire.ensures.answer spec there) in (
      limit_passed (w.limit c.args.world.now) c.args.silent spec c.args.making.now
          (w.stack c.args.world.now spec) c.draw-word.result (stream_at c.draw-word.new.rng)
          firings c.index.result.now c.draw-word.ensures
          (record { word = asked.0; few = asked.1 }) offers.1
          (chosen_firing firings c.draw-word.result c.len.result c.index.result.now many some
          c.index.ensures) (w.limit c.options.new.self) (w.stack c.options.new.self spec)
          (w.stack c.fire.new.self spec) c.in_ok-options.ensures.keeps.limit_is
          (c.in_ok-options.ensures.stack spec speaks) c.fire.new.outs.items answer,
      record { run = refl; events = refl; idle = refl },
    )
