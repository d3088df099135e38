-- What one event more changes: the runs after it are runs before it, or go on from one that has all
-- events but it.
use Rattle.std.proofs.Common.{◌≡◌, ◌≤◌, ◌<◌, ◌+◌, ◌⊎◌, ℕ, List, [], ◌∷◌, ◌++◌, length}
use Rattle.std.proofs.Common.{take, map, refl, sym, ap, subst, ◌∙◌, arith, inl, inr}
use Rattle.std.proofs.lemmas.Bool.{cases_lt}
use Rattle.std.proofs.lemmas.List.{length-append, take-append-le, take-take}
use Rattle.std.proofs.Math.Seq.{take-length}
use Rattle.est_meaning.specs.declared.event.Event.{Event}
use Rattle.est_meaning.specs.declared.trace.Expected.TheVariants.{Known}
use Rattle.est_meaning.specs.Agreement.{AgreeAll}
use Rattle.est_meaning.specs.declared.run.Move.{Move}
use Rattle.est_meaning.specs.declared.run.Move.TheVariants.{Take, Fire}
use Rattle.est_meaning.specs.Order.{Mark, Guarding, Trying, marks_of}
use Rattle.est_meaning.specs.Run.{Setup, Place, Moves, IsBoundedRun, Follows, Explains}
use Rattle.est_meaning.specs.Run.{YieldsFirst}
use Rattle.est_meaning.specs.Trials.{IsTrial, IsInner, PassesLimit, guards, block}
use Rattle.est_meaning.proofs.AgreementLaws.{agree_length, agree_take, first_taken, taken_first}
use Rattle.est_meaning.proofs.RunLaws.{one_place, explains_yields}
use Rattle.mean_watch.specs.Watching.{so_far}
use Rattle.mean_watch.specs.WatchLaws.{GoesOnFromAll, BeginsYielding, FrontiersPart}
use Rattle.mean_watch.proofs.Growing.{known_joined, known_length, grown_behind, inner_of, behind_of}

-- LISTS

-- what stands before the end of the first of two joined lists stands there
pub record IsWithin {X : Type 0} (xs front : List X) (x : X) : Type 0 where
  pub rest : List X
  pub split : xs ≡ front ++ x ∷ rest

front_within : {X : Type 0} (xs ys front rest : List X) (x : X) → xs ++ ys ≡ front ++ x ∷ rest
    → length front < length xs → IsWithin xs front x
front_within [] ys front rest x e lt = (let never : ⊥ = omega arith in absurd never)
front_within (z ∷ xs) ys [] rest x e lt =
    (let a : z ≡ x = cc in record { rest = xs; split = ap (λ w. w ∷ xs) a })
front_within (z ∷ xs) ys (f ∷ front) rest x e lt =
    let a : z ≡ f = cc in
    let b : xs ++ ys ≡ front ++ x ∷ rest = cc in
    let r = front_within xs ys front rest x b (omega arith) in
    record { rest = r.rest; split = ap (λ w. w ∷ xs) a ∙ ap (λ w. f ∷ w) r.split }

-- the first events are those of the first list
pub take_joined : (n : ℕ) (events more : List Event) → n ≤ length events
    → take n (map Known (events ++ more)) ≡ take n (map Known events)
take_joined n events more le =
    let k = known_length events in
    ap (λ w. take n w) (known_joined events more)
    ∙ take-append-le n (map Known events) (map Known more) (omega arith)

-- RUNS

-- events only come to the end
fewer_before : (c : Setup) (p : Place) (m : Move) (q : Place) → Moves c p m q
    → length p.events ≤ length q.events
fewer_before c p Take q t =
    let n : length q.events ≡ length p.events + 1 =
    ap (λ (w : Place). length w.events) t.leads ∙ length-append p.events (t.event ∷ []) in
    omega arith
fewer_before c p (Fire f) q t =
    let n : length q.events ≡ length p.events + length t.outs =
    ap (λ (w : Place). length w.events) t.leads ∙ length-append p.events t.outs in
    omega arith

-- a move along more events that has no more than these is one along these
shrunk_move : (c : Setup) (events more : List Event) (p : Place) (m : Move) (q : Place)
    → length q.events ≤ length events → Moves (so_far c (events ++ more)) p m q
    → Moves (so_far c events) p m q
shrunk_move c events more p Take q le t =
    let n : length p.events ≡ length t.front = agree_length t.front p.events t.agree in
    let k : length q.events ≡ length p.events + 1 =
    ap (λ (w : Place). length w.events) t.leads ∙ length-append p.events (t.event ∷ []) in
    let j = known_length events in
    let w = front_within (map Known events) (map Known more) t.front t.rest (Known t.event)
    (sym (known_joined events more) ∙ t.next) (omega arith) in
    record {
      event = t.event;
      front = t.front;
      rest = w.rest;
      outside = t.outside;
      agree = t.agree;
      next = w.split;
      leads = t.leads;
    }
shrunk_move c events more p (Fire f) q le t = record {
  situation = t.situation;
  outs = t.outs;
  step = t.step;
  leads = t.leads;
}

shrunk_run : (c : Setup) (events more : List Event) (run : List Move) (p : Place)
    → length p.events ≤ length events → IsBoundedRun (so_far c (events ++ more)) run p
    → IsBoundedRun (so_far c events) run p
shrunk_run c events more [] p le r = r
shrunk_run c events more (m ∷ run) p le r =
    let few = fewer_before (so_far c (events ++ more)) r.0 m p r.2 in (
      r.0,
      shrunk_run c events more run r.0 (omega arith) r.1,
      shrunk_move c events more r.0 m p le r.2,
      r.3,
    )

shrunk_follows : (c : Setup) (events more : List Event) (p : Place)
    → length p.events ≤ length events → Follows (so_far c (events ++ more)) p
    → Follows (so_far c events) p
shrunk_follows c events more p le f =
    let a = first_taken (map Known (events ++ more)) p.events f in
    let k = known_length events in
    taken_first (map Known events) p.events (
      omega arith,
      subst (λ xs. AgreeAll xs p.events) (take_joined (length p.events) events more le) a.1,
    )

-- with all events it explains them
pub explains_all : (c : Setup) (events : List Event) (run : List Move) (p : Place)
    → IsBoundedRun (so_far c events) run p → Follows (so_far c events) p
    → length p.events ≡ length events → Explains (so_far c events) run
explains_all c events run p r f e =
    let a = first_taken (map Known events) p.events f in
    let m : length (map Known events) ≡ length events = known_length events in
    record {
      place = p;
      is_run = r;
      whole = record {
        events = subst (λ xs. AgreeAll xs p.events)
            (ap (λ n. take n (map Known events)) (e ∙ sym m) ∙ take-length (map Known events)) a.1;
        quiet = λ q. (let never : ⊥ = cc in absurd never);
      };
    }

-- INNER RUNS

-- an inner run after one more event is one before it, or explains the events before
inner_part : (c : Setup) (events : List Event) (e : Event) (run : List Move) (p : Place)
    → IsInner (so_far c (events ++ e ∷ [])) run p
    → IsInner (so_far c events) run p ⊎ Explains (so_far c events) run
inner_part c events e run p i =
    let b = behind_of c (events ++ e ∷ []) run p i in
    let n : length (events ++ e ∷ []) ≡ length events + 1 = length-append events (e ∷ []) in
    let few = b.fewer in
    let le : length p.events ≤ length events = omega arith in
    let r = shrunk_run c events (e ∷ []) run p le b.is_run in
    let f = shrunk_follows c events (e ∷ []) p le b.follows in
    elim (cases_lt (length p.events) (length events)) [
      | inl lt ↦ inl (inner_of c events run p (record { is_run = r; fewer = lt; follows = f }))
      | inr ge ↦ inr (explains_all c events run p r f (omega arith))
    ]

-- an inner run before an event is one after it
pub inner_grows : (c : Setup) (events more : List Event) (run : List Move) (p : Place)
    → IsInner (so_far c events) run p → IsInner (so_far c (events ++ more)) run p
inner_grows c events more run p i =
    inner_of c (events ++ more) run p
    (grown_behind c events more run p (behind_of c events run p i))

-- TRIALS AND PASSED LIMITS

trial_parts : (c : Setup) (events : List Event) (e : Event) (x : List Move)
    → IsTrial (so_far c (events ++ e ∷ [])) x
    → IsTrial (so_far c events) x ⊎ GoesOnFromAll c events (marks_of x)
trial_parts c events e [] t = absurd t
trial_parts c events e (Take ∷ run) t = absurd t
trial_parts c events e (Fire f ∷ run) t = elim (inner_part c events e run t.0 t.1) [
  | inl i ↦ inl (t.0, i, t.2)
  | inr x ↦ inr (record { mark = Trying f; run = run; marks = refl; explains = x })
]

limit_parts : (c : Setup) (events : List Event) (e : Event) (x : List Mark)
    → PassesLimit (so_far c (events ++ e ∷ [])) x
    → PassesLimit (so_far c events) x ⊎ GoesOnFromAll c events x
limit_parts c events e x (guards run at u) =
    elim (inner_part c events e run u.place u.inner) [
      | inl i ↦ inl (guards run at
          (record { place = u.place; inner = i; unsettled = u.unsettled }))
      | inr y ↦ inr (record { mark = Guarding; run = run; marks = at; explains = y })
    ]
limit_parts c events e x (block earlier f at t) =
    elim (inner_part c events e earlier t.place t.inner) [
      | inl i ↦ inl (block earlier f at (record {
        place = t.place;
        inner = i;
        possible = t.possible;
        outcome_is = t.outcome_is;
      }))
      | inr y ↦ inr (record { mark = Trying f; run = earlier; marks = at; explains = y })
    ]

limit_grows : (c : Setup) (events more : List Event) (x : List Mark)
    → PassesLimit (so_far c events) x → PassesLimit (so_far c (events ++ more)) x
limit_grows c events more x (guards run at u) = guards run at (record {
  place = u.place;
  inner = inner_grows c events more run u.place u.inner;
  unsettled = u.unsettled;
})
limit_grows c events more x (block earlier f at t) = block earlier f at (record {
  place = t.place;
  inner = inner_grows c events more earlier t.place t.inner;
  possible = t.possible;
  outcome_is = t.outcome_is;
})

-- YIELDS

-- the first events agree without the last one
agree_less : (events : List Event) (e : Event) (es : List Event)
    → AgreeAll (take (length events + 1) (map Known (events ++ e ∷ [])))
    (take (length events + 1) es)
    → AgreeAll (take (length events) (map Known events)) (take (length events) es)
agree_less events e es a =
    let n = length events in
    let xs = map Known (events ++ e ∷ []) in
    subst (λ w. AgreeAll w (take n es)) (take_joined n events (e ∷ []) (omega arith))
    (subst (λ w. AgreeAll w (take n es)) (take-take n (n + 1) xs (omega arith))
    (subst (λ w. AgreeAll (take n (take (n + 1) xs)) w) (take-take n (n + 1) es (omega arith))
    (agree_take n (take (n + 1) xs) (take (n + 1) es) a)))

-- what begins with a run that begins so begins so
begins_more : (c : Setup) (events : List Event) (m : Move) (run : List Move)
    → BeginsYielding c events run → BeginsYielding c events (m ∷ run)
begins_more c events m run b = record {
  first = b.first;
  starts = (m ∷ b.starts.0, ap (λ w. m ∷ w) b.starts.1);
  yields = b.yields;
}

module _ (c : Setup) (events : List Event) (e : Event) where
  abbrev after : Setup
  after = so_far c (events ++ e ∷ [])

  all_and_one : length (map Known (events ++ e ∷ [])) ≡ length events + 1
  all_and_one = known_length (events ++ e ∷ []) ∙ length-append events (e ∷ [])

  -- a run that follows, and has all events but the last or all
  begins_there : (run : List Move) (q : Place) → IsBoundedRun after run q → Follows after q
      → length events ≤ length q.events
      → (YieldsFirst after run (length events + 1) → BeginsYielding c events run)
      → BeginsYielding c events run
  begins_there run q r f ge again =
      let n = all_and_one in
      let k = known_length events in
      let few = (first_taken (map Known (events ++ e ∷ [])) q.events f).0 in
      elim (cases_lt (length q.events) (length events + 1)) [
        | inl lt ↦
            (let same : length q.events ≡ length events = omega arith in
            let x = explains_all c events run q (shrunk_run c events (e ∷ []) run q (omega arith) r)
            (shrunk_follows c events (e ∷ []) q (omega arith) f) same in
            record {
              first = run;
              starts = ([], refl);
              yields = explains_yields (so_far c events) run (length events) (omega arith) x;
            })
        | inr more ↦
            again (explains_yields after run (length events + 1) (omega arith)
            (explains_all c (events ++ e ∷ []) run q r f
            (let l = length-append events (e ∷ []) in omega arith)))
      ]

  yields_begin : (run : List Move) → YieldsFirst after run (length events + 1)
      → BeginsYielding c events run
  yields_begin [] y = record {
    first = [];
    starts = ([], refl);
    yields = record {
      place = y.place;
      is_run = y.is_run;
      before = tt;
      many = (let m = y.many in omega arith);
      within = (let k = known_length events in omega arith);
      agree = agree_less events e y.place.events y.agree;
    };
  }
  yields_begin (Take ∷ run) y =
      let r = y.is_run in
      let same = one_place after run y.before.0 r.0 y.before.1 r.1 in
      let n : length y.place.events ≡ length r.0.events + 1 =
      ap (λ (w : Place). length w.events) r.2.leads ∙ length-append r.0.events (r.2.event ∷ []) in
      let m = y.many in
      begins_more c events Take run (begins_there run r.0 r.1
      (subst (λ w. Follows after w) same y.before.2) (omega arith) (yields_begin run))
  yields_begin (Fire f ∷ run) y =
      let r = y.is_run in
      let same = one_place after run y.before.0 r.0 y.before.1 r.1 in
      let follows = subst (λ w. Follows after w) same y.before.2 in
      elim (cases_lt (length r.0.events) (length events)) [
        | inl lt ↦
            (let earlier = shrunk_run c events (e ∷ []) run r.0 (omega arith) r.1 in
            let m = y.many in
            let k = known_length events in
            record {
              first = Fire f ∷ run;
              starts = ([], refl);
              yields = record {
                place = y.place;
                is_run = (
                  r.0,
                  earlier,
                  record {
                    situation = r.2.situation;
                    outs = r.2.outs;
                    step = r.2.step;
                    leads = r.2.leads;
                  },
                  r.3,
                );
                before = (
                  r.0,
                  earlier,
                  shrunk_follows c events (e ∷ []) r.0 (omega arith) follows,
                );
                many = omega arith;
                within = omega arith;
                agree = agree_less events e y.place.events y.agree;
              };
            })
        | inr ge ↦
            begins_more c events (Fire f) run
            (begins_there run r.0 r.1 follows ge (yields_begin run))
      ]

pub frontiers_part : FrontiersPart
frontiers_part = record {
  trials = trial_parts;
  limits = limit_parts;
  more = limit_grows;
  yields = yields_begin;
}
