-- Events that use up what is left of lists.
use Rattle.std.proofs.Common.{◌≡◌, ◌+◌, ℕ, zero, suc, List, [], ◌∷◌, ◌++◌, length}
use Rattle.std.proofs.Common.{refl, sym, ap, subst, ◌∙◌, append_assoc, arith}
use Rattle.est_meaning.specs.Run.{Setup}
use Rattle.est_meaning.specs.declared.event.Event.{Event}
use Rattle.est_meaning.specs.declared.event.Event.TheVariants as event
use Rattle.mean_ports.specs.declared.lists.PortLists.{PortLists}
use Rattle.mean_ports.specs.declared.moves.PortMove.{PortMove}
use Rattle.mean_ports.specs.declared.moves.PortMove.TheVariants.{TakeAt, Pass, Fire}
use Rattle.mean_ports.specs.Merges.{AreUsedUp, IsNextOf, Interleaves, used_up, next, MergesOf}
use Rattle.mean_ports.specs.PortRuns.{Left, all_left, IsNextAt, AreNext, none, more, PortPlace}
use Rattle.mean_ports.specs.PortRuns.{MovesOn, IsPortRun}

-- the events use up what is left
abbrev pub Finishes : Left → List Event → Type 0
Finishes left es = MergesOf (left.now ∷ left.later) left.times es

-- ONE MORE EVENT FIRST

-- the next event of a list, and then a merge without it
next_first : (now lists : List (List Event)) (later : List (List (List Event))) (times : List ℕ)
    (port : ℕ) (e : Event) (es : List Event) → IsNextOf now port e lists
    → MergesOf (lists ∷ later) times es → MergesOf (now ∷ later) times (e ∷ es)
next_first now lists later [] port e es n m = (m.0, next port n m.1)
next_first now lists later (u ∷ us) port e es n m =
    (e ∷ m.0, m.1, ap (λ w. e ∷ w) m.2, next port n m.3, m.4)

-- the next event of a port, and then those that use up what is left without it
pub one_first : (left after : Left) (e : Event) (es : List Event) → IsNextAt left e after
    → Finishes after es → Finishes left (e ∷ es)
one_first left after e es n f =
    next_first left.now n.lists left.later left.times n.port e es n.next
    (subst (λ w. Finishes w es) n.after_is f)

-- several of them
pub all_first : (left after : Left) (es rest : List Event) → AreNext left es after
    → Finishes after rest → Finishes left (es ++ rest)
all_first left after es rest none f = f
all_first left after es rest (more {middle = middle} {e = e} {es = later} n a) f =
    one_first left middle e (later ++ rest) n (all_first middle after later rest a f)

-- the time that ends a used up phase
pub time_first : (now phase : List (List Event)) (phases : List (List (List Event))) (units : ℕ)
    (times : List ℕ) (es : List Event) → AreUsedUp now → MergesOf (phase ∷ phases) times es
    → MergesOf (now ∷ phase ∷ phases) (units ∷ times) (event.Passes units ∷ es)
time_first now phase phases units times es a m = ([], es, refl, used_up a, m)

-- MOVES

-- the events that a move adds
abbrev pub added : (c : Setup) (q p : PortPlace) (m : PortMove) → MovesOn c q m p → List Event
added c q p (TakeAt port) t = event.Arrives t.interaction ∷ []
added c q p Pass t = event.Passes t.units ∷ []
added c q p (Fire f) t = t.outs

-- what uses up the lists after a move does so before it, behind the events that it adds
pub record Adds (q p : PortPlace) (es : List Event) : Type 0 where
  pub events_are : p.events ≡ q.events ++ es
  pub finishes : (rest : List Event) → Finishes p.left rest → Finishes q.left (es ++ rest)

pub move_adds : (c : Setup) (q p : PortPlace) (m : PortMove) (t : MovesOn c q m p)
    → Adds q p (added c q p m t)
move_adds c q p (TakeAt port) t = record {
  events_are = ap (λ (w : PortPlace). w.events) t.leads;
  finishes = λ rest f. one_first q.left t.left (event.Arrives t.interaction) rest t.next
      (subst (λ (w : PortPlace). Finishes w.left rest) t.leads f);
}
move_adds c q p Pass t = record {
  events_are = ap (λ (w : PortPlace). w.events) t.leads;
  finishes = λ rest f.
      subst (λ w. MergesOf (q.left.now ∷ w) q.left.times (event.Passes t.units ∷ rest))
      (sym t.phases_are)
      (subst (λ w. MergesOf (q.left.now ∷ t.phase ∷ t.phases) w (event.Passes t.units ∷ rest))
      (sym t.times_are)
      (time_first q.left.now t.phase t.phases t.units t.times rest t.used_up
      (subst (λ (w : PortPlace). Finishes w.left rest) t.leads f)));
}
move_adds c q p (Fire f) t = record {
  events_are = ap (λ (w : PortPlace). w.events) t.leads;
  finishes = λ rest g. all_first q.left t.left t.outs rest t.next
      (subst (λ (w : PortPlace). Finishes w.left rest) t.leads g);
}

-- PORT RUNS

-- what uses up all of the lists is a merge
pub started : (phases : List (List (List Event))) (times : List ℕ) (es : List Event)
    → length phases ≡ length times + 1 → Finishes (all_left phases times) es
    → MergesOf phases times es
started [] times es n f = (let never : ⊥ = omega arith in absurd never)
started (p ∷ ps) times es n f = f

-- what uses up the lists after a port run makes a merge behind its events
pub run_merges : (c : Setup) (lists : PortLists) (run : List PortMove) (p : PortPlace)
    (rest : List Event) → length lists.phases ≡ length lists.times + 1 → IsPortRun c lists run p
    → Finishes p.left rest → MergesOf lists.phases lists.times (p.events ++ rest)
run_merges c lists [] p rest n s f =
    let begun : Finishes s.left rest = subst (λ (w : PortPlace). Finishes w.left rest) s.place_is f
    in
    subst (λ (w : PortPlace). MergesOf lists.phases lists.times (w.events ++ rest))
    (sym s.place_is)
    (started lists.phases lists.times (c.start_outs ++ rest) n
    (all_first (all_left lists.phases lists.times) s.left c.start_outs rest s.next begun))
run_merges c lists (m ∷ earlier) p rest n r f =
    let q = r.0 in
    let es = added c q p m r.2 in
    let a = move_adds c q p m r.2 in
    let before = run_merges c lists earlier q (es ++ rest) n r.1 (a.finishes rest f) in
    subst (λ w. MergesOf lists.phases lists.times w)
    (sym (append_assoc q.events es rest) ∙ ap (λ w. w ++ rest) (sym a.events_are)) before

-- SOMETHING USES UP WHAT IS LEFT

-- a list without events is used up
used_behind : (lists : List (List Event)) → AreUsedUp lists → AreUsedUp ([] ∷ lists)
used_behind lists a zero d lt = refl
used_behind lists a (suc k) d lt = a k d (omega arith)

-- lists behind one without events
pub behind_empty : (lists : List (List Event)) (es : List Event) → Interleaves lists es
    → Interleaves ([] ∷ lists) es
behind_empty lists es (used_up a) = used_up (used_behind lists a)
behind_empty lists es (next {left = left} {e = e} {es = later} port n i) =
    next (suc port) (record {
      rest = n.rest;
      begins = n.begins;
      left_is = ap (λ w. [] ∷ w) n.left_is;
    }) (behind_empty left later i)

-- the events of the first list, and then those of the others
pub first_list : (es : List Event) (lists : List (List Event)) (fs : List Event)
    → Interleaves ([] ∷ lists) fs → Interleaves (es ∷ lists) (es ++ fs)
first_list [] lists fs i = i
first_list (e ∷ es) lists fs i =
    next 0 (record { rest = es; begins = refl; left_is = refl }) (first_list es lists fs i)

-- so are no lists
pub none_used : AreUsedUp []
none_used k d lt = (let never : ⊥ = omega arith in absurd never)

-- some events use up a phase
some_order : (lists : List (List Event)) → (es : List Event) × Interleaves lists es
some_order [] = ([], used_up none_used)
some_order (es ∷ lists) =
    let o = some_order lists in
    (es ++ o.0, first_list es lists o.0 (behind_empty lists o.0 o.1))

-- some events use up phases and their times
pub some_finish : (now : List (List Event)) (later : List (List (List Event))) (times : List ℕ)
    → length later ≡ length times → (es : List Event) × MergesOf (now ∷ later) times es
some_finish now [] [] n = (let o = some_order now in (o.0, (refl, o.1)))
some_finish now [] (u ∷ us) n = (let never : ⊥ = omega arith in absurd never)
some_finish now (p ∷ ps) [] n = (let never : ⊥ = omega arith in absurd never)
some_finish now (p ∷ ps) (u ∷ us) n =
    let o = some_order now in
    let f = some_finish p ps us (omega arith) in
    (o.0 ++ event.Passes u ∷ f.0, (o.0, f.0, refl, o.1, f.1))

-- as many times are left as phases after the current one
abbrev pub IsEven : Left → Type 0
IsEven left = length left.later ≡ length left.times

-- an event changes nothing of that
pub next_even : (left after : Left) (e : Event) → IsNextAt left e after → IsEven left → IsEven after
next_even left after e n even = subst IsEven (sym n.after_is) even

-- nor do several
pub all_even : (left after : Left) (es : List Event) → AreNext left es after → IsEven left
    → IsEven after
all_even left after es none even = even
all_even left after es (more {middle = middle} {e = e} {es = later} n a) even =
    all_even middle after later a (next_even left middle e n even)

-- nor does a move
move_even : (c : Setup) (q p : PortPlace) (m : PortMove) → MovesOn c q m p → IsEven q.left
    → IsEven p.left
move_even c q p (TakeAt port) t even = subst (λ (w : PortPlace). IsEven w.left) (sym t.leads)
    (next_even q.left t.left (event.Arrives t.interaction) t.next even)
move_even c q p Pass t even =
    let a : length q.left.later ≡ length (t.phase ∷ t.phases) = ap length t.phases_are in
    let b : length q.left.times ≡ length (t.units ∷ t.times) = ap length t.times_are in
    let n : length t.phases ≡ length t.times = omega arith in
    subst (λ (w : PortPlace). IsEven w.left) (sym t.leads) n
move_even c q p (Fire f) t even = subst (λ (w : PortPlace). IsEven w.left) (sym t.leads)
    (all_even q.left t.left t.outs t.next even)

-- so it is at the beginning
pub start_even : (phases : List (List (List Event))) (times : List ℕ)
    → length phases ≡ length times + 1 → IsEven (all_left phases times)
start_even [] times n = (let never : ⊥ = omega arith in absurd never)
start_even (p ∷ ps) times n = omega arith

-- and after a port run
pub run_even : (c : Setup) (lists : PortLists) (run : List PortMove) (p : PortPlace)
    → length lists.phases ≡ length lists.times + 1 → IsPortRun c lists run p → IsEven p.left
run_even c lists [] p n s = subst (λ (w : PortPlace). IsEven w.left) (sym s.place_is)
    (all_even (all_left lists.phases lists.times) s.left c.start_outs s.next
    (start_even lists.phases lists.times n))
run_even c lists (m ∷ earlier) p n r = move_even c r.0 p m r.2 (run_even c lists earlier r.0 n r.1)

-- after a port run some events use up what is left
pub run_finish : (c : Setup) (lists : PortLists) (run : List PortMove) (p : PortPlace)
    → length lists.phases ≡ length lists.times + 1 → IsPortRun c lists run p
    → (rest : List Event) × Finishes p.left rest
run_finish c lists run p n r = some_finish p.left.now p.left.later p.left.times
    (run_even c lists run p n r)
