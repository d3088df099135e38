use Rattle.std.proofs.Common.{◌≡◌, ◌+◌, ◌-◌, ℕ, List, take, drop, length, ap, subst, sym, arith}
use Rattle.std.proofs.Common.{◌∙◌, refl}
use Rattle.std.proofs.Math.Logic.{∥∥₁_elim}
use Rattle.std.proofs.lemmas.Result.{IfOk-weaker}
use Rattle.std.specs.Coded.{le_prop}
use Rattle.est_meaning.specs.declared.run.Move.{Move}
use Rattle.est_meaning.specs.declared.trace.Expected.{Expected}
use Rattle.est_meaning.specs.SituationStacks.{Stack}
use Rattle.est_meaning.specs.Task.{Suits}
use Rattle.est_explanation.specs.inside.Standing.{IsStanding, asked_of}
use Rattle.est_meaning.proofs.Endings.{not_true}
use Rattle.est_explanation.proofs.Replaying.{rejects_start, stands_first, begins_on, begins_back}
use Rattle.est_explanation.proofs.Replaying.{within_call, ready_call, stands_call}
use Rattle.est_explanation.proofs.Replaying.{rejects_call, keeps_both, ends_call}
use Rattle.est_explanation.proofs.replay.replay_moves.Goals as goal

asked_there : (claim : ℕ) (moves : List Move) (made asked : ℕ) (xs ys : List Expected) → xs ≡ ys
    → asked ≡ asked_of (length xs) claim (take (length moves - (made + 1)) (drop (made + 1) moves))
    → asked ≡ asked_of (length ys) claim (take (length moves - (made + 1)) (drop (made + 1) moves))
asked_there claim moves made asked xs ys same is = is ∙ ap (λ es. asked_of (length es) claim
    (take (length moves - (made + 1)) (drop (made + 1) moves))) same

pub returns-then-not-agree-clause-answer : goal.returns-then-not-agree-clause-answer
returns-then-not-agree-clause-answer g c spec speaks =
    let w = g.W.World in
    let asked_for = c.args.replaying.now in
    rejects_start (g.setup spec) spec (w.limit c.args.world.now) asked_for.silent
    asked_for.trace.now (w.stack c.args.world.now spec) c.args.start_outs.now asked_for.moves.now
    asked_for.claim (c.requires.1.1.1.1 spec speaks) (λ a. not_true (sym c.if-not-agree.true
    ∙ c.agree.ensures.1 (begins_back _ _ c.args.start_outs.now c.asked.result asked_for.claim
    asked_for.moves.now (c.as_slice-trace.ensures ∙ c.events.ensures) c.asked.ensures a)))

pub loop-index-init : goal.loop-index-init
loop-index-init g c =
    let w = g.W.World in
    let asked_for = c.args.replaying.now in
    record {
      keeps = record { forward = λ s h. h; backward = λ s h. h; limit_is = refl };
      fired = omega arith;
      standing = λ spec speaks. (
        (c.requires.1.1.1.1 spec speaks).suits,
        stands_first (g.setup spec) spec (w.limit c.args.world.now) asked_for.silent
            asked_for.trace.now (w.stack c.args.world.now spec) c.args.start_outs.now
            asked_for.moves.now asked_for.claim (c.requires.1.1.1.1 spec speaks)
            (begins_on _ _ c.args.start_outs.now c.asked.result asked_for.claim
            asked_for.moves.now (c.as_slice-trace.ensures ∙ c.events.ensures) c.asked.ensures
            (c.agree.ensures.0 c.if-not-agree.false)),
      );
    }

pub make-requires : goal.make-requires
make-requires g c κs within =
    let w = g.W.World in
    let moves = c.args.replaying.now.moves.now in
    let world = c.loop-index.world in
    let i = c.loop-index.invariant.standing in (
      within,
      (
        ∥∥₁_elim (g.met.W.World.spoken world) le_prop (λ s.
            within_call (g.setup s.0) c.args.replaying.now.claim moves c.loop-index.index
            c.loop-index.at s.0 (w.limit world) c.args.replaying.now.silent
            c.args.replaying.now.trace.now (w.stack world s.0) (i s.0 s.1).0 (i s.0 s.1).1
            c.loop-index-test.true),
        (
          (let fired = c.loop-index.invariant.fired in let room = c.requires.1.0 in let few =
              c.requires.1.1.0 in omega arith),
          λ spec speaks. (
            (i spec speaks).1.0.events,
            ready_call (g.setup spec) c.args.replaying.now.claim moves c.loop-index.index
                c.loop-index.at spec (w.limit world) c.args.replaying.now.silent
                c.args.replaying.now.trace.now (w.stack world spec) (i spec speaks).0
                (i spec speaks).1 c.loop-index-test.true,
          ),
        ),
      ),
    )

pub returns-in-Failed-clause-answer : goal.returns-in-Failed-clause-answer
returns-in-Failed-clause-answer g c spec speaks =
    let w = g.W.World in
    let world = c.loop-index.world in
    let here = c.loop-index.invariant.keeps.forward spec speaks in
    let i = c.loop-index.invariant.standing spec here in
    let ready = ready_call (g.setup spec) c.args.replaying.now.claim c.args.replaying.now.moves.now
    c.loop-index.index c.loop-index.at spec (w.limit world) c.args.replaying.now.silent
    c.args.replaying.now.trace.now (w.stack world spec) i.0 i.1 c.loop-index-test.true in
    rejects_call (g.setup spec) c.args.replaying.now.claim c.args.replaying.now.moves.now
    c.loop-index.index c.loop-index.at spec (w.limit world) c.args.replaying.now.silent
    c.args.replaying.now.trace.now (w.stack world spec) i.0 i.1 c.loop-index-test.true
    c.asked-compared.result (asked_there c.args.replaying.now.claim c.args.replaying.now.moves.now
    c.loop-index.index c.asked-compared.result _ _
    (c.as_slice-trace.ensures ∙ c.events.ensures) c.asked-compared.ensures)
    (w.stack c.make.new.world spec).now c.in-Failed.why
    (rw c.in-Failed.is at (c.in_ok-next.ensures.moved spec here i.1.0.events ready))

pub loop-index-preserved : goal.loop-index-preserved
loop-index-preserved g c =
    let w = g.W.World in
    let world = c.loop-index.world in
    let made = c.in_ok-next.ensures.keeps in
    let forgot = c.forget.ensures.keeps in
    record {
      keeps = keeps_both w.speaks w.limit c.args.world.now world c.forget.new.self
          c.loop-index.invariant.keeps (keeps_both w.speaks w.limit world c.make.new.world
          c.forget.new.self made forgot);
      fired = (let a = c.loop-index.invariant.fired in let b = c.in_ok-next.ensures.fired in let d =
          c.forget.ensures.fired in omega arith);
      standing = λ spec speaks.
          (let there = forgot.backward spec speaks in
          let here = made.backward spec there in
          let i = c.loop-index.invariant.standing spec here in
          let ready = ready_call (g.setup spec) c.args.replaying.now.claim
          c.args.replaying.now.moves.now c.loop-index.index c.loop-index.at spec (w.limit world)
          c.args.replaying.now.silent c.args.replaying.now.trace.now (w.stack world spec) i.0 i.1
          c.loop-index-test.true in
          let limit : w.limit world ≡ w.limit c.forget.new.self = sym (forgot.limit_is
          ∙ made.limit_is) in
          let now : (w.stack c.make.new.world spec).now ≡ (w.stack c.forget.new.self spec).now =
          sym (ap (λ (x : Stack). x.now) (c.forget.ensures.stack spec there)) in (
            subst (λ n. Suits (g.setup spec) spec n c.args.replaying.now.silent
                c.args.replaying.now.trace.now) limit i.0,
            subst (λ s. IsStanding (g.setup spec) c.args.replaying.now.claim
                c.args.replaying.now.moves.now (c.loop-index.index + 1) s c.in-Passed.next) now
                (stands_call (g.setup spec) c.args.replaying.now.claim
                c.args.replaying.now.moves.now c.loop-index.index c.loop-index.at spec
                (w.limit world) c.args.replaying.now.silent c.args.replaying.now.trace.now
                (w.stack world spec) i.0 i.1 c.loop-index-test.true
                c.asked-compared.result (asked_there c.args.replaying.now.claim
                c.args.replaying.now.moves.now c.loop-index.index c.asked-compared.result _ _
                (c.as_slice-trace.ensures ∙ c.events.ensures) c.asked-compared.ensures)
                (w.stack c.make.new.world spec).now c.in-Passed.next
                (rw c.in-Passed.is at (c.in_ok-next.ensures.moved spec here i.1.0.events ready))),
          ));
    }

pub returns-clause-keeps : goal.returns-clause-keeps
returns-clause-keeps g c =
    let w = g.W.World in
    keeps_both w.speaks w.limit c.args.world.now c.loop-index.world c.end.new.world
    c.loop-index.invariant.keeps c.end.ensures.keeps

pub returns-clause-answer : goal.returns-clause-answer
returns-clause-answer g c =
    let w = g.W.World in
    let world = c.loop-index.world in
    IfOk-weaker c.end.result _ _ (λ answer h spec speaks.
    (let here = c.loop-index.invariant.keeps.forward spec speaks in
    let i = c.loop-index.invariant.standing spec here in
    ends_call (g.setup spec) c.args.replaying.now.claim c.args.replaying.now.moves.now
    c.loop-index.index (w.stack world spec).now c.loop-index.at spec (w.limit world)
    c.args.replaying.now.silent c.args.replaying.now.trace.now i.0 i.1
    (let f = c.loop-index-test.false in let e = c.loop-index.auto.index-end in omega arith)
    answer (h spec here))) c.end.ensures.ending
