-- A merge of allowed lists is an allowed trace.
use Rattle.std.proofs.Common.{◌≡◌, ◌≤◌, ℕ, zero, suc, List, [], ◌∷◌, ◌++◌, map, All, Some}
use Rattle.std.proofs.Common.{refl, sym, subst, arith}
use Rattle.std.specs.Prelude.{slice_get, slice_set}
use Rattle.est_syntax.specs.Kinds.{maxint}
use Rattle.est_syntax.specs.declared.specification.Spec.{Spec}
use Rattle.est_meaning.specs.AllowedEvents.{IsAllowed, IsAllowedExpected, IsAllowedTrace}
use Rattle.est_meaning.specs.RecordedTraces.{Recorded}
use Rattle.est_meaning.specs.Run.{Setup}
use Rattle.est_meaning.specs.declared.event.Event.{Event}
use Rattle.est_meaning.specs.declared.event.Event.TheVariants as event
use Rattle.est_meaning.specs.declared.trace.Expected.TheVariants.{Known}
use Rattle.mean_ports.specs.declared.lists.PortLists.{PortLists}
use Rattle.mean_ports.specs.declared.moves.PortMove.{PortMove}
use Rattle.mean_ports.specs.Merges.{Interleaves, used_up, next, MergesOf, IsMerge}
use Rattle.mean_ports.specs.Merges.{IsPhaseOf, AreAllowedLists}
use Rattle.mean_ports.specs.PortRuns.{PortPlace, Left, IsPortRun, IsNextAt}
use Rattle.mean_ports.proofs.Finishing.{Finishes, one_first, next_even, run_even, run_merges}
use Rattle.mean_ports.proofs.Finishing.{some_finish}
use Rattle.mean_ports.proofs.Lengths.{merges_as_long}

-- EVENTS IN ORDER

-- of no events anything holds
no_event : (P : Event → Type 0) → All P []
no_event P k d lt = (let never : ⊥ = omega arith in absurd never)

-- what holds of one event and of others holds of all of them
all_more : (P : Event → Type 0) (e : Event) (es : List Event) → P e → All P es → All P (e ∷ es)
all_more P e es here rest zero d lt = here
all_more P e es here rest (suc k) d lt = rest k d (omega arith)

-- and of one after the other
all_append : (P : Event → Type 0) (es fs : List Event) → All P es → All P fs → All P (es ++ fs)
all_append P [] fs a b = b
all_append P (e ∷ es) fs a b =
    let first : P e = a 0 e (omega arith) in
    let rest : All P es = λ k d lt. a (suc k) d (omega arith) in
    all_more P e (es ++ fs) first (all_append P es fs rest b)

-- the last of several
pub all_behind : (P : Event → Type 0) (es fs : List Event) → All P (es ++ fs) → All P fs
all_behind P [] fs a = a
all_behind P (e ∷ es) fs a = all_behind P es fs (λ k d lt. a (suc k) d (omega arith))

-- the first of several
pub all_front : (P : Event → Type 0) (es fs : List Event) → All P (es ++ fs) → All P es
all_front P [] fs a = no_event P
all_front P (e ∷ es) fs a =
    let first : P e = a 0 e (omega arith) in
    all_more P e es first (all_front P es fs (λ k d lt. a (suc k) d (omega arith)))

-- LISTS

-- something holds of each event of some lists
abbrev AreEach : (Event → Type 0) → List (List Event) → Type 0
AreEach P [] = Unit {0}
AreEach P (es ∷ lists) = All P es × AreEach P lists

-- so it does of the next one, and of the lists without it
each_next : (P : Event → Type 0) (lists : List (List Event)) (port : ℕ) (e : Event)
    (rest : List Event) → AreEach P lists → slice_get lists port ≡ Some (e ∷ rest)
    → P e × AreEach P (slice_set lists port rest)
each_next P [] port e rest a is = (let never : ⊥ = cc in absurd never)
each_next P (es ∷ lists) zero e rest a is =
    let here : es ≡ e ∷ rest = cc in
    let all : All P (e ∷ rest) = subst (λ w. All P w) here a.0 in
    let first : P e = all 0 e (omega arith) in
    (first, ((λ k d lt. all (suc k) d (omega arith)), a.1))
each_next P (es ∷ lists) (suc port) e rest a is =
    let behind = each_next P lists port e rest a.1 is in
    (behind.0, (a.0, behind.1))

-- and of an interleaving
each_interleaved : (P : Event → Type 0) (lists : List (List Event)) (es : List Event)
    → AreEach P lists → Interleaves lists es → All P es
each_interleaved P lists es a (used_up u) = no_event P
each_interleaved P lists es a (next {left = left} {e = e} {es = later} port n i) =
    let o = each_next P lists port e n.rest a n.begins in
    let rest : AreEach P left = subst (λ w. AreEach P w) (sym n.left_is) o.1 in
    all_more P e later o.0 (each_interleaved P left later rest i)

-- lists each of which has such events
each_of : (P : Event → Type 0) (lists : List (List Event))
    → ((port : ℕ) (es : List Event) → slice_get lists port ≡ Some es → All P es)
    → AreEach P lists
each_of P [] each = tt
each_of P (es ∷ lists) each =
    (each 0 es refl, each_of P lists (λ port fs is. each (suc port) fs is))

-- MERGES

module _ (spec : Spec) where
  -- the events of a merge may stand in a trace
  allowed_events : (phases : List (List (List Event))) (times : List ℕ) (es : List Event)
      → All (IsPhaseOf spec) phases → All (λ u. u ≤ maxint) times → MergesOf phases times es
      → All (IsAllowed spec) es
  allowed_events [] times es ps ts m = absurd m
  allowed_events (p ∷ phases) [] es ps ts m =
      let first : IsPhaseOf spec p = ps 0 p (omega arith) in
      let each = each_of (IsAllowed spec) p (λ port fs is. (first.each port fs is).each) in
      each_interleaved (IsAllowed spec) p es each m.1
  allowed_events (p ∷ phases) (u ∷ us) es ps ts (front, rest, is, i, m) =
      let first : IsPhaseOf spec p = ps 0 p (omega arith) in
      let each = each_of (IsAllowed spec) p (λ port fs w. (first.each port fs w).each) in
      let before = each_interleaved (IsAllowed spec) p front each i in
      let units : u ≤ maxint = ts 0 u (omega arith) in
      let behind = allowed_events phases us rest (λ k d lt. ps (suc k) d (omega arith))
      (λ k d lt. ts (suc k) d (omega arith)) m in
      subst (λ w. All (IsAllowed spec) w) (sym is)
      (all_append (IsAllowed spec) front (event.Passes u ∷ rest) before
      (all_more (IsAllowed spec) (event.Passes u) rest units behind))

  -- known events that may stand in a trace are expected ones
  expected : (es : List Event) → All (IsAllowed spec) es
      → All (IsAllowedExpected spec) (map Known es)
  expected [] a k d lt = (let never : ⊥ = omega arith in absurd never)
  expected (e ∷ es) a zero d lt = a 0 e (omega arith)
  expected (e ∷ es) a (suc k) d lt =
      expected es (λ j x l. a (suc j) x (omega arith)) k d (omega arith)

  -- a merge of allowed lists is an allowed trace
  pub merge_allowed : (lists : PortLists) (merge : Recorded) → AreAllowedLists spec lists
      → IsMerge lists merge → IsAllowedTrace spec merge
  merge_allowed lists merge allowed m =
      let size = merges_as_long lists merge m in
      let few = allowed.few in
      let each = allowed_events lists.phases lists.times m.events allowed.phases allowed.times
      m.merges in
      record {
        few = omega arith;
        each = subst (λ (w : Recorded). All (IsAllowedExpected spec) w.events) (sym m.known)
            (expected m.events each);
      }

-- RUNS

module _ (c : Setup) (lists : PortLists) (run : List PortMove) (p : PortPlace)
    (allowed : AreAllowedLists c.spec lists) (r : IsPortRun c lists run p) where
  -- the events of a port run may stand in a trace, and so may those that use up what it leaves
  pub allowed_on : (rest : List Event) → Finishes p.left rest
      → All (IsAllowed c.spec) (p.events ++ rest)
  allowed_on rest f = allowed_events c.spec lists.phases lists.times (p.events ++ rest)
      allowed.phases allowed.times (run_merges c lists run p rest allowed.many r f)

  -- so may an event that is the next one of its port
  pub next_allowed : (e : Event) (after : Left) → IsNextAt p.left e after → IsAllowed c.spec e
  next_allowed e after n =
      let even = next_even p.left after e n (run_even c lists run p allowed.many r) in
      let f = some_finish after.now after.later after.times even in
      let all = allowed_on (e ∷ f.0) (one_first p.left after e f.0 n f.1) in
      all_behind (IsAllowed c.spec) p.events (e ∷ f.0) all 0 e (omega arith)
