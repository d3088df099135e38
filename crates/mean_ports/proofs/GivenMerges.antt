-- Port runs along a merge that begins with their events.
use Rattle.std.proofs.Common.{◌≡◌, ◌≤◌, ◌+◌, ℕ, List, [], ◌∷◌, ◌++◌, length, map, take, drop, refl}
use Rattle.std.proofs.Common.{sym, ap, subst, ◌∙◌, append_assoc, arith}
use Rattle.std.proofs.lemmas.List.{take-append-drop, length-append, length-take-le, take-append-le}
use Rattle.std.proofs.lemmas.List.{append-nil}
use Rattle.est_meaning.specs.mean_blocks.GlobalSituation.{Situation}
use Rattle.est_meaning.specs.mean_blocks.TextByPlace.{text_of}
use Rattle.est_meaning.proofs.AgreementLaws.{agree_self}
use Rattle.est_meaning.specs.Agreement.{AgreeAll, AgreeFirst}
use Rattle.est_meaning.specs.FiringSteps.{IsStep}
use Rattle.est_meaning.specs.RecordedTraces.{Recorded, known_trace}
use Rattle.est_meaning.specs.Run.{Setup, Place, IsBoundedRun, FollowsBefore, YieldsFirst}
use Rattle.est_meaning.specs.Run.{first_place, after_firing, silent_after}
use Rattle.est_meaning.specs.declared.event.Event.{Event}
use Rattle.est_meaning.specs.declared.firing.Firing.{Firing}
use Rattle.est_meaning.specs.declared.run.Move.{Move}
use Rattle.est_meaning.specs.declared.trace.Expected.TheVariants.{Known}
use Rattle.mean_ports.specs.declared.lists.PortLists.{PortLists}
use Rattle.mean_ports.specs.declared.moves.PortMove.{PortMove}
use Rattle.mean_ports.specs.declared.moves.PortMove.TheVariants as port_move
use Rattle.mean_ports.specs.Merges.{IsMerge}
use Rattle.mean_ports.specs.PortRunLaws.{plain_move, plain_place, IsRunAlong}
use Rattle.mean_ports.specs.PortRuns.{PortPlace, IsPortRun, all_left, along}
use Rattle.mean_ports.specs.PortYields.{Reaches}
use Rattle.mean_ports.proofs.AlongMerges.{known_first, runs_along}
use Rattle.mean_ports.proofs.Finishing.{added, move_adds}
use Rattle.mean_ports.proofs.FromMerges.{known_take}
use Rattle.mean_ports.proofs.Lengths.{known_length}

-- EVENTS

-- where the events of a merge and of a place begin alike, so many of these agree
front_agrees : (front more rest : List Event) (k : ℕ) → k ≤ length front
    → AgreeAll (take k (map Known (front ++ rest))) (take k (front ++ more))
front_agrees front more rest k le =
    let known : take k (map Known (front ++ rest)) ≡ map Known (take k front) =
    known_take k (front ++ rest) ∙ ap (λ w. map Known w) (take-append-le k front rest le) in
    let here : take k (front ++ more) ≡ take k front = take-append-le k front more le in
    subst (λ w. AgreeAll w (take k (front ++ more))) (sym known)
    (subst (λ w. AgreeAll (map Known (take k front)) w) (sym here) (agree_self (take k front)))

module _ (c : Setup) (merge : Recorded) where
  -- a run yields of the merge with which its events begin
  yields_front : (run : List Move) (p : Place) (front more rest : List Event) (k : ℕ)
      → merge ≡ known_trace (front ++ rest) → p.events ≡ front ++ more → k ≤ length front
      → IsBoundedRun (along c merge) run p → FollowsBefore (along c merge) run
      → YieldsFirst (along c merge) run k
  yields_front run p front more rest k is events le r before =
      let n : length p.events ≡ length front + length more = ap length events
      ∙ length-append front more in
      let m : length merge.events ≡ length front + length rest =
      ap (λ (w : Recorded). length w.events) is ∙ known_length (front ++ rest)
      ∙ length-append front rest in
      record {
        place = p;
        is_run = r;
        before = before;
        many = omega arith;
        within = omega arith;
        agree = subst (λ (w : Recorded). AgreeAll (take k w.events) (take k p.events)) (sym is)
            (subst (λ w. AgreeAll (take k (map Known (front ++ rest))) (take k w)) (sym events)
            (front_agrees front more rest k le));
      }

  module _ (lists : PortLists) where
    -- the run follows the merge
    pub run_follows : (p : PortPlace) (rest : List Event)
        → merge ≡ known_trace (p.events ++ rest) → AgreeFirst merge.events p.events
    run_follows p rest is = subst (λ (w : Recorded). AgreeFirst w.events p.events) (sym is)
        (known_first p.events rest)

    -- a port run without its last move follows it
    follows_before : (run : List PortMove) (p : PortPlace) (rest : List Event)
        → IsPortRun c lists run p → merge ≡ known_trace (p.events ++ rest)
        → FollowsBefore (along c merge) (map plain_move run)
    follows_before [] p rest r is = tt
    follows_before (m ∷ earlier) p rest r is =
        let q = r.0 in
        let es = added c q p m r.2 in
        let a = move_adds c q p m r.2 in
        let before : merge ≡ known_trace (q.events ++ (es ++ rest)) = is
        ∙ ap known_trace (ap (λ w. w ++ rest) a.events_are ∙ append_assoc q.events es rest) in (
          plain_place q,
          runs_along c merge lists earlier q (es ++ rest) r.1 before,
          run_follows q (es ++ rest) before,
        )

    -- a port run is a run along each merge that begins with its events
    pub run_along : (run : List PortMove) (p : PortPlace) (rest : List Event)
        → IsPortRun c lists run p → IsMerge lists merge → merge ≡ known_trace (p.events ++ rest)
        → IsRunAlong c lists run p merge
    run_along run p rest r m is = record {
      is_merge = m;
      is_run = runs_along c merge lists run p rest r is;
      follows = run_follows p rest is;
    }

    -- THE THREE WAYS TO YIELD

    -- a port run yields its events of each merge that begins with them
    pub run_yields : (run : List PortMove) (k : ℕ) (p : PortPlace) (rest : List Event)
        → IsPortRun c lists run p → k ≤ length p.events → merge ≡ known_trace (p.events ++ rest)
        → YieldsFirst (along c merge) (map plain_move run) k
    run_yields run k p rest r le is =
        yields_front (map plain_move run) (plain_place p) p.events [] rest k is
        (sym (append-nil p.events)) le (runs_along c merge lists run p rest r is)
        (follows_before run p rest r is)

    -- a start yields those of its events that were next
    pub start_yields : (k : ℕ) (rest : List Event)
        (h : Reaches (all_left lists.phases lists.times) [] c.start_outs k)
        → merge ≡ known_trace (take h.many c.start_outs ++ rest)
        → YieldsFirst (along c merge) [] k
    start_yields k rest h is =
        let front = take h.many c.start_outs in
        let size : length front ≡ h.many = length-take-le h.many c.start_outs h.within in
        let enough : k ≤ length front = omega (arith, h.enough, size) in
        yields_front [] (first_place c) front (drop h.many c.start_outs) rest k is
        (sym (take-append-drop h.many c.start_outs)) enough refl tt

    -- a last firing yields the events before it and those of its own that were next
    pub firing_yields : (earlier : List PortMove) (k : ℕ) (f : Firing) (p : PortPlace)
        (next : Situation) (outs rest : List Event) → IsPortRun c lists earlier p
        → IsStep c.limit (text_of c.spec) p.situation f next outs
        → silent_after p.silent_in_row outs ≤ c.silent → (h : Reaches p.left p.events outs k)
        → merge ≡ known_trace (p.events ++ take h.many outs ++ rest)
        → YieldsFirst (along c merge) (map plain_move (port_move.Fire f ∷ earlier)) k
    firing_yields earlier k f p next outs rest r step silent h is =
        let some = take h.many outs in
        let size : length some ≡ h.many = length-take-le h.many outs h.within in
        let front = p.events ++ some in
        let whole : length front ≡ length p.events + length some = length-append p.events some in
        let enough : k ≤ length front = omega (arith, h.enough, size, whole) in
        let begins : merge ≡ known_trace (p.events ++ (some ++ rest)) =
        is ∙ ap known_trace (append_assoc p.events some rest) in
        let events : p.events ++ outs ≡ front ++ drop h.many outs =
        ap (λ w. p.events ++ w) (sym (take-append-drop h.many outs))
        ∙ sym (append_assoc p.events some (drop h.many outs)) in
        let before = runs_along c merge lists earlier p (some ++ rest) r begins in
        yields_front (map plain_move (port_move.Fire f ∷ earlier))
        (after_firing (plain_place p) next outs) front (drop h.many outs) rest k is events enough (
          plain_place p,
          before,
          record { situation = next; outs = outs; step = step; leads = refl },
          silent,
        ) (plain_place p, before, run_follows p (some ++ rest) begins)
