-- What runs yield of merges, port runs yield.
use Rattle.std.proofs.Common.{◌≡◌, ◌≤◌, ◌+◌, ◌-◌, ℕ, zero, suc, List, [], ◌∷◌, ◌++◌, length, map}
use Rattle.std.proofs.Common.{take, drop}
use Rattle.std.proofs.Common.{All, refl, sym, ap, subst, ◌∙◌, arith}
use Rattle.std.proofs.lemmas.List.{take-append-drop, length-append}
use Rattle.est_meaning.specs.mean_blocks.TextByPlace.{text_of}
use Rattle.est_meaning.proofs.AgreementLaws.{agree_same}
use Rattle.est_meaning.proofs.RunLaws.{one_place}
use Rattle.est_meaning.proofs.Steps.{only_departures}
use Rattle.est_meaning.proofs.Takings.{taken_follows}
use Rattle.est_meaning.specs.Agreement.{AgreeAll, AgreeFirst}
use Rattle.est_meaning.specs.RecordedTraces.{Recorded, known_trace}
use Rattle.est_meaning.specs.Run.{Setup, Place, IsBegun, IsBoundedRun, Follows, Fires, YieldsFirst}
use Rattle.est_meaning.specs.SelectionLaws.{IsDeparture}
use Rattle.est_meaning.specs.declared.event.Event.{Event}
use Rattle.est_meaning.specs.declared.firing.Firing.{Firing}
use Rattle.est_meaning.specs.declared.run.Move.{Move}
use Rattle.est_meaning.specs.declared.run.Move.TheVariants.{Take, Fire}
use Rattle.est_meaning.specs.declared.trace.Expected.TheVariants.{Known}
use Rattle.mean_ports.specs.declared.lists.PortLists.{PortLists}
use Rattle.mean_ports.specs.declared.moves.PortMove.TheVariants as port_move
use Rattle.mean_ports.specs.Merges.{MergesOf}
use Rattle.mean_ports.specs.PortRuns.{all_left, along}
use Rattle.mean_ports.specs.PortYields.{by_run, by_start, by_firing, IsYieldedBy}
use Rattle.mean_ports.specs.PortYields.{YieldsArePortYields}
use Rattle.mean_ports.proofs.Finishing.{Finishes}
use Rattle.mean_ports.proofs.FromMerges.{AreAllAt, phases_at, goes_on, go_all, all_finish, with_left}
use Rattle.mean_ports.proofs.FromMerges.{known_take, followed}

-- the first of departures are departures
few_leave : (k : ℕ) (es : List Event) → All IsDeparture es → All IsDeparture (take k es)
few_leave zero es all j d lt = (let never : ⊥ = omega arith in absurd never)
few_leave (suc k) [] all j d lt = (let never : ⊥ = omega arith in absurd never)
few_leave (suc k) (e ∷ es) all zero d lt = all 0 d (omega arith)
few_leave (suc k) (e ∷ es) all (suc j) d lt =
    few_leave k es (λ i c less. all (suc i) c (omega arith)) j d (omega arith)

-- what first events and known ones agree on
same_first : (k : ℕ) (es fs : List Event) → AgreeAll (take k (map Known es)) (take k fs)
    → take k fs ≡ take k es
same_first k es fs a =
    agree_same (take k es) (take k fs) (subst (λ w. AgreeAll w (take k fs)) (known_take k es) a)

-- a list of which as many events are the first of another one
first_of : (k : ℕ) (es fs : List Event) → take k fs ≡ take k es
    → es ≡ take k fs ++ drop k es
first_of k es fs same = sym (take-append-drop k es) ∙ ap (λ w. w ++ drop k es) (sym same)

-- behind the same events the first of the rest are the same
next_same : (xs ys zs : List Event) (k j : ℕ) → j ≡ k - length xs
    → take k (xs ++ ys) ≡ take k (xs ++ zs) → take j ys ≡ take j zs
next_same [] ys zs k j is same =
    (let all : j ≡ k = omega arith in subst (λ n. take n ys ≡ take n zs) (sym all) same)
next_same (x ∷ xs) ys zs zero j is same =
    (let none : j ≡ 0 = omega arith in subst (λ n. take n ys ≡ take n zs) (sym none) refl)
next_same (x ∷ xs) ys zs (suc k) j is same =
    let less : j ≡ k - length xs = omega arith in
    let behind : take k (xs ++ ys) ≡ take k (xs ++ zs) = cc in
    next_same xs ys zs k j less behind

module _ (c : Setup) (lists : PortLists) (merge : Recorded) (es : List Event)
    (known : merge ≡ known_trace es) (begun : IsBegun c) (at : AreAllAt lists.phases)
    (m : MergesOf lists.phases lists.times es) where
  -- a start that yields so many events
  start_yields : (p : Place) (k : ℕ) → IsBoundedRun (along c merge) [] p → k ≤ length p.events
      → take k p.events ≡ take k es → IsYieldedBy c lists [] k
  start_yields p k r many same =
      let outs : p.events ≡ c.start_outs = ap (λ (w : Place). w.events) r in
      let leaves = only_departures.start c.limit (text_of c.spec) c.start c.start_outs begun in
      let few : k ≤ length c.start_outs = subst (λ w. k ≤ length w) outs many in
      let first : take k c.start_outs ≡ take k es = ap (λ w. take k w) (sym outs) ∙ same in
      let f = all_finish lists.phases lists.times es at m in
      let g = go_all (all_left lists.phases lists.times) (take k c.start_outs) (drop k es)
      (few_leave k c.start_outs leaves) f.1
      (subst (λ w. Finishes (all_left lists.phases lists.times) w)
      (first_of k es c.start_outs first) f.0) in
      record {
        moves = [];
        yields = by_start (record {
          many = k;
          after = g.after;
          within = few;
          next = g.are_next;
          enough = omega arith;
        });
        moves_are = refl;
      }

  -- a run that follows the merge yields its events
  run_yields : (run : List Move) (p : Place) (k : ℕ) → IsBoundedRun (along c merge) run p
      → Follows (along c merge) p → k ≤ length p.events → IsYieldedBy c lists run k
  run_yields run p k r follows many =
      let a : AgreeFirst (map Known es) p.events =
      subst (λ (w : Recorded). AgreeFirst w.events p.events) known follows in
      let o = goes_on c lists merge es run p (drop (length p.events) es) begun at m r
      (followed es p.events a) in
      record {
        moves = o.moves;
        yields = by_run (with_left p o.left) o.is_run many;
        moves_are = o.moves_are;
      }

  -- so does one whose last firing sends the first of what comes, and maybe more
  firing_yields : (earlier : List Move) (q p : Place) (f : Firing) (k : ℕ)
      → IsBoundedRun (along c merge) earlier q → Follows (along c merge) q
      → Fires (along c merge) q f p → p.silent_in_row ≤ c.silent → k ≤ length p.events
      → take k p.events ≡ take k es → IsYieldedBy c lists (Fire f ∷ earlier) k
  firing_yields earlier q p f k r follows t bound many same =
      let a : AgreeFirst (map Known es) q.events =
      subst (λ (w : Recorded). AgreeFirst w.events q.events) known follows in
      let n = length q.events in
      let rest = drop n es in
      let begins = followed es q.events a in
      let o = goes_on c lists merge es earlier q rest begun at m r begins in
      let events : p.events ≡ q.events ++ t.outs = ap (λ (w : Place). w.events) t.leads in
      let lengths : length p.events ≡ n + length t.outs = ap length events
      ∙ length-append q.events t.outs in
      let j = k - n in
      let front : take j t.outs ≡ take j rest = next_same q.events t.outs rest k j refl
      (ap (λ w. take k w) (sym events) ∙ same ∙ ap (λ w. take k w) begins) in
      let leaves = few_leave j t.outs (only_departures.firing c.limit (text_of c.spec) q.situation
      t.situation f t.outs t.step.done) in
      let g = go_all o.left (take j t.outs) (drop j rest) leaves o.at
      (subst (λ w. Finishes o.left w) (first_of j rest t.outs front) o.finishes) in
      let silent = subst (λ (w : Place). w.silent_in_row ≤ c.silent) t.leads bound in
      record {
        moves = port_move.Fire f ∷ o.moves;
        yields = by_firing f (with_left q o.left) t.situation t.outs o.is_run t.step silent
            (record {
              many = j;
              after = g.after;
              within = omega arith;
              next = g.are_next;
              enough = omega arith;
            });
        moves_are = ap (λ w. Fire f ∷ w) o.moves_are;
      }

  -- the events that a run yields are the first of the merge
  first_are : (run : List Move) (k : ℕ) (y : YieldsFirst (along c merge) run k)
      → take k y.place.events ≡ take k es
  first_are run k y = same_first k es y.place.events
      (subst (λ (w : Recorded). AgreeAll (take k w.events) (take k y.place.events)) known y.agree)

  yields_by : (run : List Move) (k : ℕ) → YieldsFirst (along c merge) run k
      → IsYieldedBy c lists run k
  yields_by [] k y = start_yields y.place k y.is_run y.many (first_are [] k y)
  yields_by (Take ∷ earlier) k y =
      run_yields (Take ∷ earlier) y.place k y.is_run
      (taken_follows (along c merge) y.is_run.0 y.place y.is_run.2) y.many
  yields_by (Fire f ∷ earlier) k y =
      firing_yields earlier y.is_run.0 y.place f k y.is_run.1
      (subst (λ w. Follows (along c merge) w)
      (one_place (along c merge) earlier y.before.0 y.is_run.0 y.before.1 y.is_run.1) y.before.2)
      y.is_run.2 y.is_run.3 y.many
      (first_are (Fire f ∷ earlier) k y)

pub yields_are_port_yields : YieldsArePortYields
yields_are_port_yields c lists merge run k begun allowed m y =
    yields_by c lists merge m.events m.known begun (phases_at c.spec lists.phases allowed.phases)
    m.merges run k y
