use Rattle.std.proofs.Common.{◌≡◌, ◌≤◌, ◌<◌, ◌+◌, ◌^◌, get_or, length, refl, sym, ap}
use Rattle.std.proofs.Common.{subst, ◌∙◌}
use Rattle.est_meaning.specs.mean_blocks.TextByPlace.{text_of}
use Rattle.est_meaning.specs.OutsideEvents.{after_event, later}
use Rattle.est_meaning.specs.Run.{IsFromOutside}
use Rattle.est_meaning.proofs.ClockLaws.{after_passing}
use Rattle.est_meaning.proofs.Takings.{IsKnownOutside, unknown_stays}
use Rattle.est_explanation.proofs.Moving.{pushed_now, none_left, next_inside, next_arrives}
use Rattle.est_explanation.proofs.Moving.{time_fits, next_taken}
use Rattle.est_explanation.proofs.replay.take_next.Goals.{in-Arrives+in_ok-arrive-in-Arrives}
use Rattle.est_explanation.proofs.replay.take_next.Goals.{in-Passes+in_ok-pass-in-Passes}
use Rattle.est_explanation.proofs.replay.take_next.Goals as goal

pub arrive-requires : goal.arrive-requires
arrive-requires g c spec speaks =
    let trace = c.args.checks.now.trace.now in
    let at = c.args.at.events in
    let x = c.index-trace-at.result in
    let same = c.as_slice-trace.ensures ∙ c.events.ensures in
    next_arrives (g.setup spec) spec (g.W.World.limit c.args.world.now) c.args.checks.now.silent
    trace (g.W.World.stack c.args.world.now spec) c.args.at (c.requires.1.1 spec speaks).0
    (c.requires.1.1 spec speaks).1 x c.in-Known.event c.in-Arrives.field-0
    (subst (λ es. at < length es) same c.if-at-trace.false)
    (subst (λ es. get_or es at x ≡ x) same (sym c.index-trace-at.is)) c.in-Known.is c.in-Arrives.is

pub pass-requires : goal.pass-requires
pass-requires g c spec speaks =
    let trace = c.args.checks.now.trace.now in
    let at = c.args.at.events in
    let x = c.index-trace-at.result in
    let same = c.as_slice-trace.ensures ∙ c.events.ensures in
    let stack = g.W.World.stack c.args.world.now spec in
    subst (λ n. stack.now.clock + n ≤ 10 ^ 15) (sym c.from.ensures)
    (time_fits (g.setup spec) spec (g.W.World.limit c.args.world.now) c.args.checks.now.silent
    trace stack c.args.at (c.requires.1.1 spec speaks).0
    (c.requires.1.1 spec speaks).1 x c.in-Known.event c.in-Passes.units
    (subst (λ es. at < length es) same c.if-at-trace.false)
    (subst (λ es. get_or es at x ≡ x) same (sym c.index-trace-at.is)) c.in-Known.is c.in-Passes.is)

-- nothing is left
pub returns-then-at-trace-clause-moved : goal.returns-then-at-trace-clause-moved
returns-then-at-trace-clause-moved g c spec speaks events ready = (
  refl,
  none_left (g.setup spec) spec (g.W.World.limit c.args.world.now) c.args.checks.now.silent
      c.args.checks.now.trace.now (g.W.World.stack c.args.world.now spec) c.args.at events ready
      (subst (λ es. length es ≤ c.args.at.events) (c.as_slice-trace.ensures ∙ c.events.ensures)
      c.if-at-trace.true),
)

-- it was seen in part
pub returns-in_default-clause-moved : goal.returns-in_default-clause-moved
returns-in_default-clause-moved g c spec speaks events ready =
    let at = c.args.at.events in
    let x = c.index-trace-at.result in
    let same = c.as_slice-trace.ensures ∙ c.events.ensures in (
      refl,
      next_inside (g.setup spec) spec (g.W.World.limit c.args.world.now) c.args.checks.now.silent
          c.args.checks.now.trace.now (g.W.World.stack c.args.world.now spec) c.args.at events ready
          x (subst (λ es. at < length es) same c.if-at-trace.false)
          (subst (λ es. get_or es at x ≡ x) same (sym c.index-trace-at.is))
          (unknown_stays x c.in_default.not-Known),
    )

-- it leaves
pub returns-in-Leaves-clause-moved : goal.returns-in-Leaves-clause-moved
returns-in-Leaves-clause-moved g c spec speaks events ready =
    let at = c.args.at.events in
    let x = c.index-trace-at.result in
    let same = c.as_slice-trace.ensures ∙ c.events.ensures in (
      refl,
      next_inside (g.setup spec) spec (g.W.World.limit c.args.world.now) c.args.checks.now.silent
          c.args.checks.now.trace.now (g.W.World.stack c.args.world.now spec) c.args.at events ready
          x (subst (λ es. at < length es) same c.if-at-trace.false)
          (subst (λ es. get_or es at x ≡ x) same (sym c.index-trace-at.is))
          (λ k. subst IsFromOutside c.in-Leaves.is (subst IsKnownOutside c.in-Known.is k)),
    )

pub returns-clause-moved : goal.returns-clause-moved
returns-clause-moved g c spec speaks events ready =
    let trace = c.args.checks.now.trace.now in
    let at = c.args.at.events in
    let x = c.index-trace-at.result in
    let same = c.as_slice-trace.ensures ∙ c.events.ensures in
    let short : at < length trace.events = subst (λ es. at < length es) same c.if-at-trace.false in
    let there : get_or trace.events at x ≡ x =
    subst (λ es. get_or es at x ≡ x) same (sym c.index-trace-at.is) in
    let stack = g.W.World.stack c.args.world.now spec in
    let e = c.in-Known.event in
    elim c.match-event.branch [
      | in-Arrives+in_ok-arrive-in-Arrives w ↦
          (let outside : IsFromOutside e = subst IsFromOutside (sym w.in-Arrives.is) tt in
          let same : (g.W.World.stack c.match-event.world spec).now
          ≡ (g.W.World.stack w.arrive.new.self spec).now =
          ap (λ v. (g.W.World.stack v spec).now) w.world-is in
          let there' = after_event (text_of spec) stack.now e in
          let arrived : (g.W.World.stack w.arrive.new.self spec).now ≡ there' =
          pushed_now (g.W.World.stack w.arrive.new.self spec) stack there'
          (w.in_ok-arrive-in-Arrives.ensures.ok spec speaks) in
          let now : (g.W.World.stack c.match-event.world spec).now ≡ there' = same ∙ arrived in
          let after : there' ≡ (g.W.World.stack c.match-event.world spec).now = sym now in
          next_taken (g.setup spec) spec (g.W.World.limit c.args.world.now)
          c.args.checks.now.silent trace stack c.args.at events ready
          c.args.checks.now.asked x e (g.W.World.stack c.match-event.world spec).now
          short there c.in-Known.is outside after)
      | in-Passes+in_ok-pass-in-Passes w ↦
          (let outside : IsFromOutside e = subst IsFromOutside (sym w.in-Passes.is) tt in
          let here : after_event (text_of spec) stack.now e ≡ later stack.now w.from.result =
          ap (after_event (text_of spec) stack.now) w.in-Passes.is
          ∙ after_passing (text_of spec) stack.now w.in-Passes.units
          ∙ ap (later stack.now) (sym w.from.ensures) in
          let same : (g.W.World.stack c.match-event.world spec).now
          ≡ (g.W.World.stack w.pass.new.self spec).now = ap (λ v. (g.W.World.stack v spec).now)
          w.world-is in
          let passed : (g.W.World.stack w.pass.new.self spec).now ≡ later stack.now w.from.result =
          pushed_now (g.W.World.stack w.pass.new.self spec) stack
          (later stack.now w.from.result) (w.in_ok-pass-in-Passes.ensures.ok spec speaks) in
          let now : (g.W.World.stack c.match-event.world spec).now ≡ later stack.now w.from.result =
          same ∙ passed in
          let after : after_event (text_of spec) stack.now e
          ≡ (g.W.World.stack c.match-event.world spec).now = here ∙ sym now in
          next_taken (g.setup spec) spec (g.W.World.limit c.args.world.now)
          c.args.checks.now.silent trace stack c.args.at events ready
          c.args.checks.now.asked x e (g.W.World.stack c.match-event.world spec).now
          short there c.in-Known.is outside after)
    ]
