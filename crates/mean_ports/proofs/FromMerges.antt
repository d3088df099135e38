-- Runs that follow a merge are port runs.
use Rattle.std.proofs.Common.{◌≡◌, ◌+◌, ◌≤◌, ℕ, zero, suc, List, [], ◌∷◌, ◌++◌, length, map, All}
use Rattle.std.proofs.Common.{Some, take, drop, refl, sym, ap, subst, ◌∙◌, append_assoc, arith}
use Rattle.std.specs.Prelude.{slice_get, slice_set}
use Rattle.std.proofs.lemmas.List.{take-append-drop}
use Rattle.est_syntax.specs.declared.specification.Spec.{Spec}
use Rattle.est_meaning.specs.mean_blocks.TextByPlace.{text_of}
use Rattle.est_meaning.proofs.AgreementLaws.{agree_same, first_taken}
use Rattle.est_meaning.proofs.Steps.{only_departures}
use Rattle.est_meaning.specs.Agreement.{AgreeAll, AgreeFirst}
use Rattle.est_meaning.specs.RecordedTraces.{Recorded}
use Rattle.est_meaning.specs.Run.{Setup, Place, IsBegun, IsBoundedRun, IsFromOutside}
use Rattle.est_meaning.specs.Run.{Fires, after_taking}
use Rattle.est_meaning.specs.SelectionLaws.{IsDeparture}
use Rattle.est_meaning.specs.declared.event.Event.{Event}
use Rattle.est_meaning.specs.declared.event.Event.TheVariants as event
use Rattle.est_meaning.specs.declared.event.Interaction.{Interaction}
use Rattle.est_meaning.specs.declared.firing.Firing.{Firing}
use Rattle.est_meaning.specs.declared.run.Move.{Move}
use Rattle.est_meaning.specs.declared.run.Move.TheVariants.{Take, Fire}
use Rattle.est_meaning.specs.declared.trace.Expected.TheVariants.{Known}
use Rattle.mean_ports.specs.declared.lists.PortLists.{PortLists}
use Rattle.mean_ports.specs.declared.moves.PortMove.{PortMove}
use Rattle.mean_ports.specs.declared.moves.PortMove.TheVariants as port_move
use Rattle.mean_ports.specs.Merges.{AreUsedUp, IsNextOf, Interleaves, used_up, next, MergesOf, IsAt}
use Rattle.mean_ports.specs.Merges.{IsPhaseOf}
use Rattle.mean_ports.specs.PortRunLaws.{RunsArePortRuns, plain_move}
use Rattle.mean_ports.specs.PortRuns.{PortPlace, Left, all_left, IsNextAt, AreNext, none, more}
use Rattle.mean_ports.specs.PortRuns.{IsPortRun, along}
use Rattle.mean_ports.proofs.Finishing.{Finishes}

-- EVENTS OF THEIR PORTS

-- the lists from the port of a number on have events of their ports
abbrev pub AreAtFrom : ℕ → List (List Event) → Type 0
AreAtFrom n [] = Unit {0}
AreAtFrom n (es ∷ lists) = All (IsAt n) es × AreAtFrom (n + 1) lists

-- without the next event of a port it is so still, and that is one of the port
pub at_next : (n : ℕ) (lists : List (List Event)) (k : ℕ) (e : Event) (rest : List Event)
    → AreAtFrom n lists → slice_get lists k ≡ Some (e ∷ rest)
    → IsAt (n + k) e × AreAtFrom n (slice_set lists k rest)
at_next n [] k e rest a is = (let never : ⊥ = cc in absurd never)
at_next n (es ∷ lists) zero e rest a is =
    let here : es ≡ e ∷ rest = cc in
    let all : All (IsAt n) (e ∷ rest) = subst (λ w. All (IsAt n) w) here a.0 in
    let first : IsAt n e = all 0 e (omega arith) in
    let same : n + 0 ≡ n = omega arith in (
      subst (λ m. IsAt m e) (sym same) first,
      ((λ j d lt. all (suc j) d (omega arith)), a.1),
    )
at_next n (es ∷ lists) (suc k) e rest a is =
    let behind = at_next (n + 1) lists k e rest a.1 is in
    let same : n + 1 + k ≡ n + suc k = omega arith in
    (subst (λ m. IsAt m e) same behind.0, (a.0, behind.1))

-- lists each of which has events of its port
pub listed_from : (n : ℕ) (lists : List (List Event))
    → ((k : ℕ) (es : List Event) → slice_get lists k ≡ Some es → All (IsAt (n + k)) es)
    → AreAtFrom n lists
listed_from n [] each = tt
listed_from n (es ∷ lists) each =
    let same : n + 0 ≡ n = omega arith in (
      subst (λ m. All (IsAt m) es) same (each 0 es refl),
      listed_from (n + 1) lists (λ k fs is.
          let more : n + suc k ≡ n + 1 + k = omega arith in
          subst (λ m. All (IsAt m) fs) more (each (suc k) fs is)),
    )

-- the same of phases
abbrev pub AreAllAt : List (List (List Event)) → Type 0
AreAllAt [] = Unit {0}
AreAllAt (p ∷ ps) = AreAtFrom 0 p × AreAllAt ps

-- so are those of phases that are allowed
pub phases_at : (spec : Spec) (phases : List (List (List Event))) → All (IsPhaseOf spec) phases
    → AreAllAt phases
phases_at spec [] all = tt
phases_at spec (p ∷ ps) all =
    let first : IsPhaseOf spec p = all 0 p (omega arith) in (
      listed_from 0 p (λ k es is.
          let same : k ≡ 0 + k = omega arith in
          subst (λ m. All (IsAt m) es) same (first.each k es is).here),
      phases_at spec ps (λ k d lt. all (suc k) d (omega arith)),
    )

-- and of what is left
abbrev pub IsLeftAt : Left → Type 0
IsLeftAt left = AreAtFrom 0 left.now × AreAllAt left.later

-- ONE EVENT

-- an event that is no passing of time
abbrev IsAtSome : Event → Type 0
IsAtSome (event.Arrives i) = Unit {0}
IsAtSome (event.Leaves i) = Unit {0}
IsAtSome (event.Passes units) = ⊥

-- the event is the next one of its port, and the rest uses up what is left then
record Goes (left : Left) (e : Event) (rest : List Event) : Type 0 where
  after : Left
  is_next : IsNextAt left e after
  finishes : Finishes after rest
  at : IsLeftAt after

-- the same within a phase
record GoesIn (now : List (List Event)) (e : Event) (es : List Event) : Type 0 where
  port : ℕ
  lists : List (List Event)
  is_next : IsNextOf now port e lists
  interleaves : Interleaves lists es

-- the first event of an interleaving is the next one of some list
first_in : (now : List (List Event)) (e : Event) (es : List Event) → Interleaves now (e ∷ es)
    → GoesIn now e es
first_in now e es (next {left = left} port n i) =
    record { port = port; lists = left; is_next = n; interleaves = i }

-- and it is at its port
goes_at : (left : Left) (e : Event) (es : List Event) (g : GoesIn left.now e es) → IsLeftAt left
    → IsAt g.port e × IsLeftAt (record left { now = g.lists })
goes_at left e es g at =
    let n = g.is_next in
    let a = at_next 0 left.now g.port e n.rest at.0 n.begins in
    let same : 0 + g.port ≡ g.port = omega arith in
    (subst (λ m. IsAt m e) same a.0, (subst (λ w. AreAtFrom 0 w) (sym n.left_is) a.1, at.1))

-- so it is the next one of its port
goes_by : (left : Left) (e : Event) (es rest : List Event) (g : GoesIn left.now e es)
    → IsLeftAt left → Finishes (record left { now = g.lists }) rest → Goes left e rest
goes_by left e es rest g at f = record {
  after = record left { now = g.lists };
  is_next = record {
    port = g.port;
    at = (goes_at left e es g at).0;
    lists = g.lists;
    next = g.is_next;
    after_is = refl;
  };
  finishes = f;
  at = (goes_at left e es g at).1;
}

-- an event that is no time is the next one of its port, where it comes first
goes : (now : List (List Event)) (later : List (List (List Event))) (times : List ℕ) (e : Event)
    (rest : List Event) → IsAtSome e
    → IsLeftAt (record { now = now; later = later; times = times })
    → MergesOf (now ∷ later) times (e ∷ rest)
    → Goes (record { now = now; later = later; times = times }) e rest
goes now later [] e rest some at m =
    let g = first_in now e rest m.1 in
    goes_by (record { now = now; later = later; times = [] }) e rest rest g at
    (m.0, g.interleaves)
goes now later (u ∷ us) e rest some at ([], behind, is, i, m) =
    let passes : e ≡ event.Passes u = cc in
    let never : ⊥ = subst IsAtSome passes some in
    absurd never
goes now later (u ∷ us) e rest some at (f ∷ front, behind, is, i, m) =
    let first : e ≡ f = cc in
    let others : rest ≡ front ++ event.Passes u ∷ behind = cc in
    let g = first_in now e front (subst (λ w. Interleaves now (w ∷ front)) (sym first) i) in
    goes_by (record { now = now; later = later; times = u ∷ us }) e front rest g at
    (front, behind, others, g.interleaves, m)

-- SEVERAL EVENTS

-- the events are the next ones of their ports, and the rest uses up what is left then
pub record GoAll (left : Left) (es rest : List Event) : Type 0 where
  pub after : Left
  pub are_next : AreNext left es after
  pub finishes : Finishes after rest
  pub at : IsLeftAt after

-- a departure is no passing of time
departs : (e : Event) → IsDeparture e → IsAtSome e
departs (event.Arrives i) d = absurd d
departs (event.Leaves i) d = tt
departs (event.Passes units) d = absurd d

-- departures that come first are the next ones of their ports
pub go_all : (left : Left) (es rest : List Event) → All IsDeparture es → IsLeftAt left
    → Finishes left (es ++ rest) → GoAll left es rest
go_all left [] rest all at f =
    record { after = left; are_next = none; finishes = f; at = at }
go_all left (e ∷ es) rest all at f =
    let g = goes left.now left.later left.times e (es ++ rest)
    (departs e (all 0 e (omega arith))) at f in
    let o = go_all g.after es rest (λ k d lt. all (suc k) d (omega arith)) g.at g.finishes in
    record {
      after = o.after;
      are_next = more g.is_next o.are_next;
      finishes = o.finishes;
      at = o.at;
    }

-- TIME

-- the phase is used up and its time follows, and the rest uses up what is left after it
record Passing (left : Left) (units : ℕ) (rest : List Event) : Type 0 where
  phase : List (List Event)
  phases : List (List (List Event))
  times : List ℕ
  is_used : AreUsedUp left.now
  phases_are : left.later ≡ phase ∷ phases
  times_are : left.times ≡ units ∷ times
  finishes : MergesOf (phase ∷ phases) times rest
  at : AreAtFrom 0 phase × AreAllAt phases

-- no time passes within a phase
no_time_in : (now : List (List Event)) (units : ℕ) (es : List Event) → AreAtFrom 0 now
    → Interleaves now (event.Passes units ∷ es) → ⊥
no_time_in now units es at i =
    let g = first_in now (event.Passes units) es i in
    (at_next 0 now g.port (event.Passes units) g.is_next.rest at g.is_next.begins).0

-- lists that no events use up are used up
pub used_of : (now : List (List Event)) → Interleaves now [] → AreUsedUp now
used_of now (used_up a) = a

-- a time that comes first ends its phase
passing : (now : List (List Event)) (later : List (List (List Event))) (times : List ℕ)
    (units : ℕ) (rest : List Event)
    → IsLeftAt (record { now = now; later = later; times = times })
    → MergesOf (now ∷ later) times (event.Passes units ∷ rest)
    → Passing (record { now = now; later = later; times = times }) units rest
passing now later [] units rest at m = absurd (no_time_in now units rest at.0 m.1)
passing now [] (u ∷ us) units rest at (front, behind, is, i, m) = absurd m
passing now (p ∷ ps) (u ∷ us) units rest at ([], behind, is, i, m) =
    let same : units ≡ u = cc in
    let others : rest ≡ behind = cc in
    record {
      phase = p;
      phases = ps;
      times = us;
      is_used = used_of now i;
      phases_are = refl;
      times_are = ap (λ w. w ∷ us) (sym same);
      finishes = subst (λ w. MergesOf (p ∷ ps) us w) (sym others) m;
      at = at.1;
    }
passing now (p ∷ ps) (u ∷ us) units rest at (f ∷ front, behind, is, i, m) =
    let first : f ≡ event.Passes units = cc in
    absurd (no_time_in now units front at.0 (subst (λ w. Interleaves now (w ∷ front)) first i))

-- RUNS

-- a run as a port run, after which the rest uses up what is left
pub record GoesOn (c : Setup) (lists : PortLists) (run : List Move) (p : Place) (rest : List Event)
    : Type 0 where
  pub moves : List PortMove
  pub left : Left
  pub is_run : IsPortRun c lists moves (record {
    situation = p.situation;
    events = p.events;
    left = left;
    silent_in_row = p.silent_in_row;
  })
  pub moves_are : map plain_move moves ≡ run
  pub finishes : Finishes left rest
  pub at : IsLeftAt left

-- a place with what is left
abbrev pub with_left : Place → Left → PortPlace
with_left p left = record {
  situation = p.situation;
  events = p.events;
  left = left;
  silent_in_row = p.silent_in_row;
}

-- a merge uses up all of the lists
pub all_finish : (phases : List (List (List Event))) (times : List ℕ) (es : List Event)
    → AreAllAt phases → MergesOf phases times es
    → Finishes (all_left phases times) es × IsLeftAt (all_left phases times)
all_finish [] times es at m = absurd m
all_finish (p ∷ ps) times es at m = (m, at)

module _ (c : Setup) (lists : PortLists) (merge : Recorded) where
  -- a start whose events are the first of a merge
  goes_from_start : (es : List Event) (p : Place) (rest : List Event) → IsBegun c
      → AreAllAt lists.phases → MergesOf lists.phases lists.times es
      → IsBoundedRun (along c merge) [] p → es ≡ p.events ++ rest → GoesOn c lists [] p rest
  goes_from_start es p rest begun at m s is =
      let leaves = only_departures.start c.limit (text_of c.spec) c.start c.start_outs begun in
      let events : es ≡ c.start_outs ++ rest = is ∙ ap (λ (w : Place). w.events ++ rest) s in
      let f = all_finish lists.phases lists.times es at m in
      let g = go_all (all_left lists.phases lists.times) c.start_outs rest leaves f.1
      (subst (λ w. Finishes (all_left lists.phases lists.times) w) events f.0) in
      record {
        moves = [];
        left = g.after;
        is_run = record {
          left = g.after;
          next = g.are_next;
          place_is = ap (λ w. with_left w g.after) s;
        };
        moves_are = refl;
        finishes = g.finishes;
        at = g.at;
      }

  module _ (earlier : List Move) (q p : Place) (rest : List Event)
      (bound : p.silent_in_row ≤ c.silent) where
    -- an arrival
    goes_with_arrival : (i : Interaction) → p ≡ after_taking c q (event.Arrives i)
        → GoesOn c lists earlier q (event.Arrives i ∷ rest) → GoesOn c lists (Take ∷ earlier) p rest
    goes_with_arrival i leads o =
        let g = goes o.left.now o.left.later o.left.times (event.Arrives i) rest tt o.at o.finishes
        in
        record {
          moves = port_move.TakeAt i.port ∷ o.moves;
          left = g.after;
          is_run = (
            with_left q o.left,
            o.is_run,
            record {
              interaction = i;
              left = g.after;
              here = refl;
              next = g.is_next;
              leads = ap (λ w. with_left w g.after) leads;
            },
            bound,
          );
          moves_are = ap (λ w. Take ∷ w) o.moves_are;
          finishes = g.finishes;
          at = g.at;
        }

    -- a time
    goes_with_time : (units : ℕ) → p ≡ after_taking c q (event.Passes units)
        → GoesOn c lists earlier q (event.Passes units ∷ rest)
        → GoesOn c lists (Take ∷ earlier) p rest
    goes_with_time units leads o =
        let w = passing o.left.now o.left.later o.left.times units rest o.at o.finishes in
        let after : Left = record { now = w.phase; later = w.phases; times = w.times } in
        record {
          moves = port_move.Pass ∷ o.moves;
          left = after;
          is_run = (
            with_left q o.left,
            o.is_run,
            record {
              units = units;
              phase = w.phase;
              phases = w.phases;
              times = w.times;
              used_up = w.is_used;
              phases_are = w.phases_are;
              times_are = w.times_are;
              leads = ap (λ x. with_left x after) leads;
            },
            bound,
          );
          moves_are = ap (λ x. Take ∷ x) o.moves_are;
          finishes = w.finishes;
          at = w.at;
        }

    -- an event from outside
    goes_with : (e : Event) → IsFromOutside e → p ≡ after_taking c q e
        → GoesOn c lists earlier q (e ∷ rest) → GoesOn c lists (Take ∷ earlier) p rest
    goes_with (event.Arrives i) outside leads o = goes_with_arrival i leads o
    goes_with (event.Leaves i) outside leads o = absurd outside
    goes_with (event.Passes units) outside leads o = goes_with_time units leads o

    -- a firing
    goes_with_firing : (f : Firing) (t : Fires c q f p)
        → GoesOn c lists earlier q (t.outs ++ rest) → GoesOn c lists (Fire f ∷ earlier) p rest
    goes_with_firing f t o =
        let leaves = only_departures.firing c.limit (text_of c.spec) q.situation t.situation f
        t.outs t.step.done in
        let g = go_all o.left t.outs rest leaves o.at o.finishes in
        record {
          moves = port_move.Fire f ∷ o.moves;
          left = g.after;
          is_run = (
            with_left q o.left,
            o.is_run,
            record {
              situation = t.situation;
              outs = t.outs;
              left = g.after;
              step = t.step;
              next = g.are_next;
              leads = ap (λ w. with_left w g.after) t.leads;
            },
            bound,
          );
          moves_are = ap (λ w. Fire f ∷ w) o.moves_are;
          finishes = g.finishes;
          at = g.at;
        }

  -- a run whose events are the first of a merge
  pub goes_on : (es : List Event) (run : List Move) (p : Place) (rest : List Event) → IsBegun c
      → AreAllAt lists.phases → MergesOf lists.phases lists.times es
      → IsBoundedRun (along c merge) run p → es ≡ p.events ++ rest → GoesOn c lists run p rest
  goes_on es [] p rest begun at m r is = goes_from_start es p rest begun at m r is
  goes_on es (Take ∷ earlier) p rest begun at m r is =
      let q = r.0 in
      let t = r.2 in
      let events : es ≡ q.events ++ t.event ∷ rest = is
      ∙ ap (λ (w : Place). w.events ++ rest) t.leads
      ∙ append_assoc q.events (t.event ∷ []) rest in
      goes_with earlier q p rest r.3 t.event t.outside t.leads
      (goes_on es earlier q (t.event ∷ rest) begun at m r.1 events)
  goes_on es (Fire f ∷ earlier) p rest begun at m r is =
      let q = r.0 in
      let t = r.2 in
      let events : es ≡ q.events ++ (t.outs ++ rest) = is
      ∙ ap (λ (w : Place). w.events ++ rest) t.leads ∙ append_assoc q.events t.outs rest in
      goes_with_firing earlier q p rest r.3 f (record {
        situation = t.situation;
        outs = t.outs;
        step = t.step;
        leads = t.leads;
      })
      (goes_on es earlier q (t.outs ++ rest) begun at m r.1 events)

-- the first of known events
pub known_take : (k : ℕ) (es : List Event) → take k (map Known es) ≡ map Known (take k es)
known_take zero es = refl
known_take (suc k) [] = refl
known_take (suc k) (e ∷ es) = ap (λ w. Known e ∷ w) (known_take k es)

-- the events of a run that follows known events are the first of them
pub followed : (es fs : List Event) → AgreeFirst (map Known es) fs
    → es ≡ fs ++ drop (length fs) es
followed es fs a =
    let k = length fs in
    let agree = subst (λ w. AgreeAll w fs) (known_take k es) (first_taken (map Known es) fs a).1 in
    sym (take-append-drop k es)
    ∙ ap (λ w. w ++ drop k es) (sym (agree_same (take k es) fs agree))

pub runs_are_port_runs : RunsArePortRuns
runs_are_port_runs c lists merge run p begun allowed m r follows =
    let a : AgreeFirst (map Known m.events) p.events =
    subst (λ (w : Recorded). AgreeFirst w.events p.events) m.known follows in
    let o = goes_on c lists merge m.events run p (drop (length p.events) m.events) begun
    (phases_at c.spec lists.phases allowed.phases) m.merges r (followed m.events p.events a) in
    record {
      moves = o.moves;
      place = with_left p o.left;
      is_run = o.is_run;
      moves_are = o.moves_are;
      place_is = refl;
    }
