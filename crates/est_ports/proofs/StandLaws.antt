-- Where a rest stands.
use Rattle.std.proofs.Common.{◌≡◌, ◌≤◌, ◌<◌, ◌+◌, ℕ, List, [], ◌∷◌, ◌++◌, length}
use Rattle.std.proofs.Common.{drop, Some, None, refl, sym, ap, subst, ◌∙◌, arith}
use Rattle.std.proofs.lemmas.List.{length-drop}
use Rattle.std.specs.Prelude.{◌↔◌, Bool, false, IsTrue, slice_get, slice_set}
use Rattle.est_meaning.specs.declared.event.Event.{Event}
use Rattle.est_meaning.specs.declared.event.Event.TheVariants as event
use Rattle.est_meaning.specs.declared.event.Interaction.{Interaction}
use Rattle.mean_ports.specs.declared.lists.PortLists.{PortLists}
use Rattle.mean_ports.specs.Merges.{IsAt, AreUsedUp}
use Rattle.mean_ports.specs.PortRuns.{Left, all_left, IsNextAt, IsAllUsed}
use Rattle.est_ports.specs.declared.left.Used.{Used}
use Rattle.est_ports.specs.declared.left.Used.TheVariants.{At, Time}
use Rattle.est_ports.specs.declared.left.Rest.{Rest}
use Rattle.est_ports.specs.inside.Cursors.{cut, starts, first_at, IsArrivalAt}
use Rattle.est_ports.specs.inside.Leftover.{lists_of, Stand, first_stand, UsesAt, UsesTime}
use Rattle.est_ports.specs.inside.Leftover.{Uses, LeadsTo, HasUsedUp, used_of, stand_of, Stands}
use Rattle.est_ports.specs.inside.Leftover.{ArrivesNext, PassesNext}
use Rattle.est_ports.proofs.CursorLaws.{first_begins, begins_first, ended, cut_starts}
use Rattle.est_ports.proofs.LeftLaws.{left_of, can_use, can_pass, used_time, within_leads}
use Rattle.est_ports.proofs.LeftLaws.{drop_none}
use Rattle.est_ports.proofs.LeftLaws.{one_port, times_are}

-- a stand with this phase and these cursors
pub stand_is : (t : Stand) (phase : ℕ) (cursors : List ℕ) → phase ≡ t.phase → cursors ≡ t.cursors
    → record { phase = phase; cursors = cursors; events = t.events } ≡ t
stand_is t phase cursors a b =
    ap (λ w. record { phase = w; cursors = cursors; events = t.events }) a
    ∙ ap (λ w. record { phase = t.phase; cursors = w; events = t.events }) b

module _ (lists : PortLists) where
  -- at first all of the lists is left
  pub first_stands : (rest : Rest) → rest.phase ≡ 0
      → rest.cursors.items ≡ starts (lists_of lists 0) → used_of rest ≡ []
      → Stands lists rest (all_left lists.phases lists.times) []
  first_stands rest phase cursors used =
      let first = first_stand lists in
      let here : stand_of rest [] ≡ first =
      stand_is first rest.phase rest.cursors.items phase cursors in
      let whole : left_of lists first ≡ all_left lists.phases lists.times =
      ap (λ w. record (all_left lists.phases lists.times) { now = w })
      (cut_starts (lists_of lists 0)) in
      record {
        leads = subst (λ w. LeadsTo lists w (stand_of rest [])) (sym used) here;
        left_is = sym whole ∙ ap (λ (w : Stand). left_of lists w) (sym here);
      }

  -- what stands was used up
  pub stands_uses : (rest : Rest) (left : Left) (events : List Event)
      → Stands lists rest left events → HasUsedUp lists (used_of rest) left events
  stands_uses rest left events s = record {
    stand = stand_of rest events;
    leads = s.leads;
    left_is = s.left_is;
    events_are = refl;
  }

  -- one thing more is used up
  pub moved_stands : (old new : Rest) (u : Used) (left after : Left) (events evs : List Event)
      (t : Stand) → Stands lists old left events → Uses lists (stand_of old events) u t
      → t.events ≡ evs → after ≡ left_of lists t → used_of new ≡ u ∷ used_of old
      → stand_of new t.events ≡ t → Stands lists new after evs
  moved_stands old new u left after events evs t s uses is left_is used same =
      let here : stand_of new evs ≡ t = subst (λ w. stand_of new w ≡ t) is same in
      let leads : LeadsTo lists (u ∷ used_of old) t = (stand_of old events, s.leads, uses) in
      record {
        leads = subst (λ w. LeadsTo lists w (stand_of new evs)) (sym used)
            (subst (λ w. LeadsTo lists (u ∷ used_of old) w) (sym here) leads);
        left_is = left_is ∙ ap (λ (w : Stand). left_of lists w) (sym here);
      }

  -- the next event of a port is used up
  pub taken_stands : (old new : Rest) (port : ℕ) → used_of new ≡ At port ∷ used_of old
      → ((events : List Event) (t : Stand) → UsesAt lists (stand_of old events) port t
      → stand_of new t.events ≡ t)
      → (left after : Left) (events : List Event) (e : Event) → Stands lists old left events
      → IsAt port e → IsNextAt left e after → Stands lists new after (events ++ e ∷ [])
  taken_stands old new port used leads left after events e s at n =
      let c = can_use lists (stand_of old events) port e after at
      (subst (λ w. IsNextAt w e after) s.left_is n) in
      moved_stands old new (At port) left after events (events ++ e ∷ []) c.to s c.uses c.events_are
      c.left_is used (leads events c.to c.uses)

  -- a time is used up
  pub passed_stands : (old new : Rest) → used_of new ≡ Time ∷ used_of old
      → ((events : List Event) (t : Stand) → UsesTime lists (stand_of old events) t
      → stand_of new t.events ≡ t)
      → (left after : Left) (events : List Event) (units : ℕ) → Stands lists old left events
      → PassesNext left units after → Stands lists new after (events ++ event.Passes units ∷ [])
  passed_stands old new used leads left after events units s x =
      let within = within_leads lists (used_of old) (stand_of old events) s.leads in
      let c = can_pass lists (stand_of old events) units after within
      (subst (λ w. PassesNext w units after) s.left_is x) in
      moved_stands old new Time left after events (events ++ event.Passes units ∷ []) c.to s c.uses
      c.events_are c.left_is used (leads events c.to c.uses)

-- NEXT EVENTS

-- the first event of a list is the next one of its port
pub first_next : (left : Left) (port : ℕ) (e : Event) → IsAt port e
    → first_at left.now port ≡ Some e → (after : Left) × IsNextAt left e after
first_next left port e at h =
    let b = first_begins left.now port e h in
    let lists = slice_set left.now port b.0 in (
      record left { now = lists },
      record {
        port = port;
        at = at;
        lists = lists;
        next = record { rest = b.0; begins = b.1; left_is = refl };
        after_is = refl;
      },
    )

-- and the other way round
pub next_first : (left after : Left) (port : ℕ) (e : Event) → IsAt port e → IsNextAt left e after
    → first_at left.now port ≡ Some e
next_first left after port e at n =
    let same : n.port ≡ port = one_port n.port port e n.at at in
    subst (λ w. first_at left.now w ≡ Some e) same
    (begins_first left.now n.port e n.next.rest n.next.begins)

-- an arrival at a port
record IsArrivalOf (port : ℕ) (e : Event) : Type 0 where
  interaction : Interaction
  here : interaction.port ≡ port
  event_is : e ≡ event.Arrives interaction

arrival_of : (port : ℕ) (e : Event) → IsArrivalAt port e → IsArrivalOf port e
arrival_of port (event.Arrives i) a = record { interaction = i; here = a; event_is = refl }
arrival_of port (event.Leaves i) a = absurd a
arrival_of port (event.Passes units) a = absurd a

-- what has to hold where a time passes
pub record Passable (lists : PortLists) (rest : Rest) (units : ℕ) : Type 0 where
  pub later : rest.phase + 1 < length lists.phases
  pub used : AreUsedUp (cut rest.cursors.items (lists_of lists rest.phase))
  pub units_is : slice_get lists.times rest.phase ≡ Some units

module _ (lists : PortLists) (rest : Rest) (left : Left) (events : List Event)
    (s : Stands lists rest left events) where
  now_is : left.now ≡ cut rest.cursors.items (lists_of lists rest.phase)
  now_is = ap (λ (w : Left). w.now) s.left_is

  pub arrival_some : (port : ℕ) (e : Event)
      → first_at (cut rest.cursors.items (lists_of lists rest.phase)) port ≡ Some e
      → IsArrivalAt port e → ArrivesNext left port e
  arrival_some port e h a =
      let o = arrival_of port e a in
      let first : first_at left.now port ≡ Some (event.Arrives o.interaction) =
      ap (λ w. first_at w port) now_is ∙ h ∙ ap Some o.event_is in
      let n = first_next left port (event.Arrives o.interaction) o.here first in
      record {
        interaction = o.interaction;
        after = n.0;
        here = o.here;
        event_is = o.event_is;
        next = n.1;
      }

  arrival_first : (port : ℕ) (e : Event) → ArrivesNext left port e
      → first_at (cut rest.cursors.items (lists_of lists rest.phase)) port ≡ Some e
  arrival_first port e a =
      let first = next_first left a.after port (event.Arrives a.interaction) a.here a.next in
      ap (λ w. first_at w port) (sym now_is) ∙ first ∙ ap Some (sym a.event_is)

  -- no event is left there
  pub arrival_none : (port : ℕ) (e : Event)
      → first_at (cut rest.cursors.items (lists_of lists rest.phase)) port ≡ None
      → ArrivesNext left port e → ⊥
  arrival_none port e h a = (let first = arrival_first port e a in cc)

  -- the next one is no arrival
  pub arrival_other : (port : ℕ) (e f : Event)
      → first_at (cut rest.cursors.items (lists_of lists rest.phase)) port ≡ Some f
      → (IsArrivalAt port f → ⊥) → ArrivesNext left port e → ⊥
  arrival_other port e f h other a =
      let first = arrival_first port e a in
      let same : event.Arrives a.interaction ≡ f =
      (let x = a.event_is in let y : Some e ≡ Some f = sym first ∙ h in cc) in
      other (subst (λ w. IsArrivalAt port w) same a.here)

  -- TIME

  pub passing_some : (units : ℕ) → rest.phase + 1 < length lists.phases
      → AreUsedUp (cut rest.cursors.items (lists_of lists rest.phase))
      → slice_get lists.times rest.phase ≡ Some units
      → (after : Left) × PassesNext left units after
  passing_some units lt used is =
      let at = stand_of rest events in
      let now = lists_of lists rest.phase in
      let within = within_leads lists (used_of rest) at s.leads in
      let to : Stand = record {
        phase = rest.phase + 1;
        cursors = starts (lists_of lists (rest.phase + 1));
        events = events ++ event.Passes units ∷ [];
      } in
      let uses : UsesTime lists at to = record {
        units = units;
        ended = ended rest.cursors.items now within used;
        more = lt;
        units_is = is;
        leads = refl;
      } in (
        left_of lists to,
        subst (λ w. PassesNext w units (left_of lists to)) (sym s.left_is)
            (used_time lists at to uses),
      )

  -- so it does where one passes next
  pub passable : (units : ℕ) (after : Left) → PassesNext left units after
      → Passable lists rest units
  passable units after x =
      let at = stand_of rest events in
      let within = within_leads lists (used_of rest) at s.leads in
      let y : PassesNext (left_of lists at) units after =
      subst (λ w. PassesNext w units after) s.left_is x in
      let c = can_pass lists at units after within y in
      record { later = c.later; used = y.used_up; units_is = c.units_is }

  -- NOTHING LEFT

  -- where phases are left, more than one is
  few_later : (ps : List (List (List Event))) (ts : List ℕ) → length ps ≤ 1
      → (all_left ps ts).later ≡ []
  few_later [] ts le = refl
  few_later (p ∷ []) ts le = refl
  few_later (p ∷ q ∷ ps) ts le = (let never : ⊥ = omega arith in absurd never)

  later_few : (ps : List (List (List Event))) (ts : List ℕ) → (all_left ps ts).later ≡ []
      → length ps ≤ 1
  later_few [] ts h = omega arith
  later_few (p ∷ []) ts h = omega arith
  later_few (p ∷ q ∷ ps) ts h = (let never : ⊥ = cc in absurd never)

  pub all_used : length lists.times ≤ rest.phase → (rest.phase + 1 < length lists.phases → ⊥)
      → AreUsedUp (cut rest.cursors.items (lists_of lists rest.phase)) → IsAllUsed left
  all_used times last used =
      let n = rest.phase in
      let few : length lists.phases ≤ n + 1 = omega arith in
      let size = length-drop n lists.phases in
      let one : length (drop n lists.phases) ≤ 1 = omega arith in
      record {
        now = subst (λ w. AreUsedUp w) (sym now_is) used;
        later = ap (λ (w : Left). w.later) s.left_is
            ∙ few_later (drop n lists.phases) (drop n lists.times) one;
        times = ap (λ (w : Left). w.times) s.left_is
            ∙ times_are (drop n lists.phases) (drop n lists.times)
            ∙ drop_none lists.times n times;
      }

  pub used_times : IsAllUsed left → length lists.times ≤ rest.phase
  used_times u =
      let n = rest.phase in
      let none : drop n lists.times ≡ [] =
      sym (times_are (drop n lists.phases) (drop n lists.times))
      ∙ sym (ap (λ (w : Left). w.times) s.left_is) ∙ u.times in
      let size : length (drop n lists.times) ≡ 0 = ap length none in
      omega (arith, length-drop n lists.times)

  pub used_later : IsAllUsed left → rest.phase + 1 < length lists.phases → ⊥
  used_later u lt =
      let n = rest.phase in
      let none : (all_left (drop n lists.phases) (drop n lists.times)).later ≡ [] =
      sym (ap (λ (w : Left). w.later) s.left_is) ∙ u.later in
      let one = later_few (drop n lists.phases) (drop n lists.times) none in
      omega (arith, length-drop n lists.phases)

  pub used_now : IsAllUsed left → AreUsedUp (cut rest.cursors.items (lists_of lists rest.phase))
  used_now u = subst (λ w. AreUsedUp w) now_is u.now

  -- so something is left
  pub some_left : (IsAllUsed left → ⊥) → (IsTrue false ↔ IsAllUsed left)
  some_left never = ((λ t. let no_way : ⊥ = cc in absurd no_way), (λ u. absurd (never u)))

  -- so whether something is left is seen in the phase
  pub whether_left : (b : Bool) → length lists.times ≤ rest.phase
      → (rest.phase + 1 < length lists.phases → ⊥)
      → (IsTrue b ↔ AreUsedUp (cut rest.cursors.items (lists_of lists rest.phase)))
      → (IsTrue b ↔ IsAllUsed left)
  whether_left b times last used =
      ((λ t. all_used times last (used.0 t)), (λ u. used.1 (used_now u)))
