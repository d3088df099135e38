-- What a run yields at most, and what passes its limit after it.
use Rattle.std.proofs.Common.{◌≡◌, ℕ, zero, suc, ◌+◌, ◌<◌, ◌≤◌, ◌⊎◌, List, [], ◌∷◌, Some}
use Rattle.std.proofs.Common.{length, take, refl, sym, ap, subst, ◌∙◌, inl, inr, arith}
use Rattle.std.specs.Prelude.{slice_get}
use Rattle.std.proofs.lemmas.Bool.{cases_lt}
use Rattle.est_meaning.proofs.StackLaws.{limit_done}
use Rattle.est_meaning.proofs.Steps.{steps_unique}
use Rattle.est_meaning.specs.FiringSteps.{IsStep, outcome}
use Rattle.est_meaning.specs.Run.{Setup, silent_after}
use Rattle.est_meaning.specs.declared.event.Event.{Event}
use Rattle.est_meaning.specs.declared.firing.Firing.{Firing}
use Rattle.est_meaning.specs.mean_blocks.GlobalSituation.{Situation}
use Rattle.est_meaning.specs.mean_blocks.Outcome.{Limit}
use Rattle.est_meaning.specs.mean_blocks.TextByPlace.{text_of}
use Rattle.mean_ports.specs.declared.lists.PortLists.{PortLists}
use Rattle.mean_ports.specs.declared.moves.PortMove.{PortMove}
use Rattle.mean_ports.specs.declared.moves.PortMove.TheVariants.{TakeAt, Pass, Fire}
use Rattle.mean_ports.specs.PortRuns.{Left, PortPlace, IsNextAt, AreNext, FiresOn, IsPortRun}
use Rattle.mean_ports.specs.PortRuns.{all_left}
use Rattle.mean_ports.specs.PortTrials.{PassesIn, PassesOnTree}
use Rattle.mean_ports.specs.PortYields.{PortYields, Reaches, by_run, by_start, by_firing}
use Rattle.est_ports.proofs.PortPlaces.{opened, next_one, one_port_place}
use Rattle.est_ports.proofs.PortTree.{IsOnTree}

-- THE WAYS TO YIELD

-- by the events of the run
pub record RunWay (c : Setup) (lists : PortLists) (run : List PortMove) (k : ℕ) : Type 0 where
  pub place : PortPlace
  pub is_run : IsPortRun c lists run place
  pub few : k ≤ length place.events

-- by some of those of its last firing
pub record FireWay (c : Setup) (lists : PortLists) (run : List PortMove) (k : ℕ) : Type 0 where
  pub firing : Firing
  pub earlier : List PortMove
  pub place : PortPlace
  pub next : Situation
  pub outs : List Event
  pub run_is : run ≡ Fire firing ∷ earlier
  pub is_run : IsPortRun c lists earlier place
  pub step : IsStep c.limit (text_of c.spec) place.situation firing next outs
  pub silent : silent_after place.silent_in_row outs ≤ c.silent
  pub reaches : Reaches place.left place.events outs k

-- by some of those of the start
pub record StartWay (c : Setup) (lists : PortLists) (run : List PortMove) (k : ℕ) : Type 0 where
  pub run_is : run ≡ []
  pub reaches : Reaches (all_left lists.phases lists.times) [] c.start_outs k

-- one of these ways
abbrev pub Ways : Setup → PortLists → List PortMove → ℕ → Type 0
Ways c lists run k = RunWay c lists run k ⊎ (FireWay c lists run k ⊎ StartWay c lists run k)

pub ways : (c : Setup) (lists : PortLists) (run : List PortMove) (k : ℕ)
    → PortYields c lists run k → Ways c lists run k
ways c lists run k (by_run p r le) = inl (record { place = p; is_run = r; few = le })
ways c lists run k (by_start h) = inr (inr (record { run_is = refl; reaches = h }))
ways c lists run k (by_firing {earlier = earlier} f p next outs r step silent h) =
    inr (inl (record {
      firing = f;
      earlier = earlier;
      place = p;
      next = next;
      outs = outs;
      run_is = refl;
      is_run = r;
      step = step;
      silent = silent;
      reaches = h;
    }))

-- EVENTS THAT ARE NEXT ONES

beyond_by : (es : List Event) (left after : Left) (k : ℕ) → AreNext left (take k es) after
    → ((e : Event) (beyond : Left) → slice_get es k ≡ Some e → IsNextAt after e beyond → ⊥)
    → (n : ℕ) (end : Left) → k < n → n ≤ length es → AreNext left (take n es) end → ⊥
beyond_by [] left after k a stop n end lt le b = omega arith
beyond_by (e ∷ es) left after zero a stop zero end lt le b = omega arith
beyond_by (e ∷ es) left after zero a stop (suc n) end lt le b =
    let o = opened left (e ∷ take n es) end b in
    let same : after ≡ left = opened left [] after a in
    stop e o.0 refl (subst (λ w. IsNextAt w e o.0) (sym same) o.1)
beyond_by (e ∷ es) left after (suc k) a stop zero end lt le b = omega arith
beyond_by (e ∷ es) left after (suc k) a stop (suc n) end lt le b =
    let o = opened left (e ∷ take n es) end b in
    let p = opened left (e ∷ take k es) after a in
    let same : o.0 ≡ p.0 = next_one left o.0 p.0 e o.1 p.1 in
    beyond_by es p.0 after k p.2 stop n end (omega arith) (omega arith)
    (subst (λ w. AreNext w (take n es) end) same o.2)

-- of events of which the one behind the first k is no next one, no more than k are
pub none_beyond : (es : List Event) (left after : Left) (k : ℕ) → AreNext left (take k es) after
    → ((e : Event) (beyond : Left) → slice_get es k ≡ Some e → IsNextAt after e beyond → ⊥)
    → (n : ℕ) (end : Left) → n ≤ length es → AreNext left (take n es) end → n ≤ k
none_beyond es left after k a stop n end le b = elim (cases_lt k n) [
  | inr few ↦ few
  | inl lt ↦ absurd (beyond_by es left after k a stop n end lt le b)
]

-- WHAT A MOVE YIELDS

module _ (c : Setup) (lists : PortLists) (h : List PortMove) where
  -- an event from outside yields itself
  pub take_few : (port : ℕ) (q : PortPlace) → IsPortRun c lists (TakeAt port ∷ h) q → (j : ℕ)
      → PortYields c lists (TakeAt port ∷ h) j → j ≤ length q.events
  take_few port q r j y = elim (ways c lists (TakeAt port ∷ h) j y) [
    | inl w ↦ subst (λ (p : PortPlace). j ≤ length p.events)
        (one_port_place c lists (TakeAt port ∷ h) w.place q w.is_run r) w.few
    | inr u ↦ elim u [
      | inl w ↦ (let e = w.run_is in cc)
      | inr w ↦ (let e = w.run_is in cc)
    ]
  ]

  pub pass_few : (q : PortPlace) → IsPortRun c lists (Pass ∷ h) q → (j : ℕ)
      → PortYields c lists (Pass ∷ h) j → j ≤ length q.events
  pass_few q r j y = elim (ways c lists (Pass ∷ h) j y) [
    | inl w ↦ subst (λ (p : PortPlace). j ≤ length p.events)
        (one_port_place c lists (Pass ∷ h) w.place q w.is_run r) w.few
    | inr u ↦ elim u [
      | inl w ↦ (let e = w.run_is in cc)
      | inr w ↦ (let e = w.run_is in cc)
    ]
  ]

  module _ (f : Firing) (p : PortPlace) (there : IsPortRun c lists h p) where
    -- a firing on the tree is done there
    pub fired_there : (run : IsOnTree c lists (Fire f ∷ h)) → FiresOn c p f run.0
    fired_there run = subst (λ w. FiresOn c w f run.0)
        (one_port_place c lists h run.1.0 p run.1.1 there) run.1.2

    -- the way by a last firing is by this one
    pub way_here : (j : ℕ) (w : FireWay c lists (Fire f ∷ h) j)
        → IsStep c.limit (text_of c.spec) p.situation f w.next w.outs
        × (silent_after p.silent_in_row w.outs ≤ c.silent) × Reaches p.left p.events w.outs j
    way_here j w =
        let run_is = w.run_is in
        let g : w.firing ≡ f = cc in
        let e : w.earlier ≡ h = cc in
        let same : w.place ≡ p = one_port_place c lists h w.place p
        (subst (λ x. IsPortRun c lists x w.place) e w.is_run) there in
        let P : PortPlace → Type 0 = λ x.
        IsStep c.limit (text_of c.spec) x.situation f w.next w.outs
        × (silent_after x.silent_in_row w.outs ≤ c.silent) × Reaches x.left x.events w.outs j in
        subst P same (
          subst (λ x. IsStep c.limit (text_of c.spec) w.place.situation x w.next w.outs) g w.step,
          w.silent,
          w.reaches,
        )

    -- how much is yielded where the events of the firing are known
    pub firing_few : (m : ℕ)
        → ((q : PortPlace) → IsPortRun c lists (Fire f ∷ h) q → length q.events ≤ m)
        → ((next : Situation) (outs : List Event)
        → IsStep c.limit (text_of c.spec) p.situation f next outs
        → silent_after p.silent_in_row outs ≤ c.silent → (n : ℕ) (after : Left)
        → n ≤ length outs → AreNext p.left (take n outs) after → length p.events + n ≤ m)
        → (j : ℕ) → PortYields c lists (Fire f ∷ h) j → j ≤ m
    firing_few m run sent j y = elim (ways c lists (Fire f ∷ h) j y) [
      | inl w ↦ (let few = w.few in let le = run w.place w.is_run in omega arith)
      | inr u ↦ elim u [
        | inl w ↦
            (let a = way_here j w in
            let r = a.2 in
            let le = sent w.next w.outs a.0 a.1 r.many r.after r.within r.next in
            let enough = r.enough in
            omega arith)
        | inr w ↦ (let e = w.run_is in let never : ⊥ = cc in absurd never)
      ]
    ]

    -- its block passes its limit only where that is what comes of it
    pub block_passes : (outcome c.limit (text_of c.spec) p.situation f ≡ Limit → ⊥)
        → (u : PassesOnTree c lists) (g : Firing) → u.firing ≡ Some g
        → Fire g ∷ u.run ≡ Fire f ∷ h → ⊥
    block_passes never u g is same =
        let e : g ≡ f = cc in
        let r : u.run ≡ h = cc in
        let q : u.place ≡ p = one_port_place c lists h u.place p
        (subst (λ x. IsPortRun c lists x u.place) r u.inner.is_run) there in
        let a : PassesIn c u.place.situation (Some g) =
        subst (λ o. PassesIn c u.place.situation o) is u.passes in
        never (ap (λ (x : PortPlace). outcome c.limit (text_of c.spec) x.situation f) (sym q)
        ∙ ap (λ x. outcome c.limit (text_of c.spec) u.place.situation x) (sym e) ∙ a.1)

  -- a firing that is done
  module _ (f : Firing) (p : PortPlace) (is : IsPortRun c lists h p) (s : Situation)
      (outs : List Event) (step : IsStep c.limit (text_of c.spec) p.situation f s outs) where
    pub outs_are : (next : Situation) (others : List Event)
        → IsStep c.limit (text_of c.spec) p.situation f next others → others ≡ outs
    outs_are next others x =
        (steps_unique c.limit (text_of c.spec) p.situation f next s others outs x step).1

    pub done_passes : (u : PassesOnTree c lists) (g : Firing) → u.firing ≡ Some g
        → Fire g ∷ u.run ≡ Fire f ∷ h → ⊥
    done_passes = block_passes f p is (λ l. limit_done s outs (sym l ∙ step.done))
