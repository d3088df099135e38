-- What blocks keep, firings and starts keep.
use Rattle.std.proofs.Common.{◌≡◌, refl, sym, ap, subst, ◌∙◌, arith, ℕ, ℤ, nat_eq, Bool, true}
use Rattle.std.proofs.Common.{false, List, [], ◌∷◌, ◌++◌, Option, Some, None}
use Rattle.std.specs.Prelude.{find, option_and_then, if◌then◌else◌}
use Rattle.std.specs.Option.{option_map_or}
use Rattle.std.proofs.lemmas.List.Elements.{All-from_recursion}
use Rattle.std.specs.Prelude.{All}
use Rattle.std.specs.List.{AllByRecursion, cons_option, position}
use Rattle.std.specs.Option.{option_map}
use Rattle.mean_blocks.specs.rule_declares.PortList.{ports_of}
use Rattle.est_syntax.specs.declared.body.Block.{out-Block}
use Rattle.mean_blocks.specs.declared.fault.BlockFault.TheVariants.{Undefined}
use Rattle.mean_blocks.specs.declared.situation.InteractionPoint.{InteractionPoint}
use Rattle.mean_blocks.specs.declared.situation.Row.{Row}
use Rattle.mean_blocks.specs.declared.situation.Item.{Item}
use Rattle.mean_blocks.specs.Outcome.{Outcome, Done, Fault, Limit}
use Rattle.mean_blocks.specs.TextByPlace.{Text}
use Rattle.mean_blocks.specs.GlobalSituation.{Situation, row_of, is_numbered, first_changed}
use Rattle.mean_blocks.specs.NamesInRuns.{declared_at}
use Rattle.mean_blocks.specs.QueueEffects.{without_head}
use Rattle.mean_blocks.specs.OutputEffects.{Sent}
use Rattle.mean_blocks.specs.InstanceEffects.{in_state}
use Rattle.mean_blocks.specs.KeepingLaws.{BlocksKeep, GoesOver, KeepsPeers}
use Rattle.mean_blocks.specs.StartMeaning.{no_instances, start_before}
use Rattle.mean_blocks.proofs.OrderlyStarts.{OnSent, block_kept, numbered_first, mutual_first}
use Rattle.mean_blocks.proofs.NumbersAscend.{goes_kept, situations_go_over}
use Rattle.mean_blocks.proofs.MutualPeers.{peers_stay_mutual}
use Rattle.est_meaning.specs.declared.event.Event.{Event}
use Rattle.est_meaning.specs.declared.event.Event.TheVariants as event
use Rattle.est_meaning.specs.declared.firing.Firing.{Firing}
use Rattle.est_meaning.specs.TransitionChoices.{Choice, choice_of}
use Rattle.est_meaning.specs.GuardParts.{view_of}
use Rattle.est_meaning.specs.TransitionSelection.{IsPossible, parent, is_due}
use Rattle.est_meaning.specs.TransitionSelection.{outranks, priority_at}
use Rattle.est_meaning.specs.OutsideEvents.{is_port, is_signal, signals_at, departure_through}
use Rattle.est_meaning.specs.OutsideEvents.{departures}
use Rattle.est_meaning.specs.DelayStamps.{restamped}
use Rattle.est_meaning.specs.FiringSteps.{taking_point, without_awaited, block_frame, performed_in}
use Rattle.est_meaning.specs.FiringSteps.{with_next_state, completed, finished, fired_in, fired_by}
use Rattle.est_meaning.specs.FiringSteps.{outcome, start_of}
use Rattle.est_meaning.specs.SelectionLaws.{IsDeparture, OnlyDeparturesCome}
use Rattle.est_meaning.specs.SelectionLaws.{StepsAreUnique, PossibleMeansSettled}
use Rattle.est_meaning.specs.SelectionLaws.{OnlyDueStops, FiringsAreOrderly, NextStateIsSet}
use Rattle.est_meaning.specs.SelectionLaws.{StartsBeginInOrder}
use Rattle.est_meaning.proofs.Options.{some_is, by_option}

-- STEPS

-- a firing that is done
abbrev done : List Event → Situation → Outcome Situation (List Event)
done outs s = Done outs s

done_events : (outs others : List Event) (s t : Situation) → done outs s ≡ done others t
    → outs ≡ others
done_events outs others s t e = cc

done_situation : (outs others : List Event) (s t : Situation) → done outs s ≡ done others t
    → s ≡ t
done_situation outs others s t e = cc

pub steps_unique : StepsAreUnique
steps_unique limit t s f next other outs others a b =
    let e : done outs next ≡ done others other = sym a.done ∙ b.done in
    (done_situation outs others next other e, done_events outs others next other e)

pub possible_settled : PossibleMeansSettled
unfolding IsPossible
possible_settled limit t s f p = p.settled

-- SELECTION

due_not : (b : Bool) → b ≡ false → b ≡ true → ⊥
due_not true e h = cc
due_not false e h = cc

ranked : (p q : Option ℤ) (a : ℤ) (x : Option ℤ) → p ≡ Some a → q ≡ x
    → outranks (Some a) x ≡ true → outranks p q ≡ true
ranked p q a x e g h = ap (λ o. outranks o q) e ∙ ap (outranks (Some a)) g ∙ h

pub only_due_stops : OnlyDueStops
unfolding IsPossible
only_due_stops = record {
  nothing_due = λ limit t s f settled offered h. record {
    settled = settled;
    offered = offered;
    unranked = λ g e due rank. due_not (is_due limit t s g) (h g) due;
    unpreceded = λ g above due. due_not (is_due limit t s g) (h g) due;
  };
  parent = λ limit t s f g r p e h due.
      p.unpreceded g (parent f.instance r e (sym h)) due;
  priority = λ limit t s f g a b p e due m n l.
      p.unranked g e due (ranked (priority_at t s g) (priority_at t s f) a (Some b) m n l);
  none = λ limit t s f g a p e due m n.
      p.unranked g e due (ranked (priority_at t s g) (priority_at t s f) a None m n refl);
}

-- WHAT IS KEPT

-- a property holds of the situation to which something leads that is done
abbrev pub OnNext : (Situation → Type 0) → Outcome Situation (List Event) → Type 0
OnNext P (Done outs s) = P s
OnNext P (Fault f) = Unit {0}
OnNext P Limit = Unit {0}

finished_next : (t : Text) (finish : Situation → Situation) (P Q : Situation → Type 0)
    (o : Outcome Sent (Unit {0})) → ((u : Situation) → Q u → P (finish u)) → OnSent Q o
    → OnNext P (finished t finish o)
finished_next t finish P Q (Done a x) h k = h x.situation k
finished_next t finish P Q (Fault f) h k = tt
finished_next t finish P Q Limit h k = tt

-- what holds after what the block of a firing leaves
firing_next : (R : Situation → Situation → Type 0) (P : Situation → Type 0) → BlocksKeep R
    → (limit : ℕ) (t : Text) (s : Situation) (f : Firing)
    → ((c : Choice) → choice_of t s f ≡ Some c → (u : Situation)
    → R (without_awaited limit t s c) u → P (completed limit t f c u))
    → OnNext P (outcome limit t s f)
unfolding outcome
firing_next R P keep limit t s f h = by_option (OnNext P) (fired_by limit t s f) (choice_of t s f)
    (Fault Undefined) (λ c g. by_option (OnNext P) (fired_in limit t s f c) (view_of limit t s c)
    (Fault Undefined) (λ v _. finished_next t (completed limit t f c) P
    (R (without_awaited limit t s c)) (performed_in limit t s c v) (h c g)
    (block_kept R keep t c.row.number (v.frames ++ block_frame t.outline c.transition ∷ [])
    (out-Block c.transition.block).statements limit (without_awaited limit t s c))) tt) tt

pub firing_leads : (R : Situation → Situation → Type 0) (P : Situation → Type 0) → BlocksKeep R
    → (limit : ℕ) (t : Text) (s next : Situation) (f : Firing) (outs : List Event)
    → ((c : Choice) → choice_of t s f ≡ Some c → (u : Situation)
    → R (without_awaited limit t s c) u → P (completed limit t f c u))
    → outcome limit t s f ≡ Done outs next → P next
firing_leads R P keep limit t s next f outs h e =
    subst (OnNext P) e (firing_next R P keep limit t s f h)

-- what holds after what the block of a start leaves
start_next : (R : Situation → Situation → Type 0) (P : Situation → Type 0) → BlocksKeep R
    → (limit : ℕ) (t : Text)
    → ((u : Situation) → R no_instances u → P (restamped limit t None u))
    → OnNext P (start_of limit t)
unfolding start_of
start_next R P keep limit t h = finished_next t (restamped limit t None) P (R no_instances)
    (start_before t limit) h (block_kept R keep t 0 [] (t.spec.first ∷ []) limit no_instances)

pub start_leads : (R : Situation → Situation → Type 0) (P : Situation → Type 0) → BlocksKeep R
    → (limit : ℕ) (t : Text) (s : Situation) (outs : List Event)
    → ((u : Situation) → R no_instances u → P (restamped limit t None u))
    → start_of limit t ≡ Done outs s → P s
start_leads R P keep limit t s outs h e = subst (OnNext P) e (start_next R P keep limit t h)

-- NUMBERS AND THE CLOCK

-- an item is taken, or none
taken_goes : (t : Text) (o : Option InteractionPoint) (s : Situation)
    → GoesOver s (option_map_or (λ p. without_head t p s) o s)
taken_goes t None s = (goes_kept t).same s
taken_goes t (Some p) s = record { clock = refl; next = omega arith; numbers = λ k. k }

stamped_goes : (limit : ℕ) (t : Text) (fired : Option Firing) (s : Situation)
    → GoesOver s (restamped limit t fired s)
stamped_goes limit t fired s = record { clock = refl; next = omega arith; numbers = λ k. k }

completed_goes : (limit : ℕ) (t : Text) (f : Firing) (c : Choice) (s : Situation)
    → GoesOver s (completed limit t f c s)
completed_goes limit t f c s = (goes_kept t).after s (with_next_state t c s)
    (completed limit t f c s) ((goes_kept t).states c.row.number _ s)
    (stamped_goes limit t (Some f) (with_next_state t c s))

firing_goes : (limit : ℕ) (t : Text) (s next : Situation) (f : Firing) (outs : List Event)
    → outcome limit t s f ≡ Done outs next → GoesOver s next
firing_goes limit t s next f outs e =
    firing_leads GoesOver (GoesOver s) situations_go_over limit t s next f outs
    (λ c _ u g. (goes_kept t).after s u (completed limit t f c u)
    ((goes_kept t).after s (without_awaited limit t s c) u
    (taken_goes t (taking_point limit t s c) s) g) (completed_goes limit t f c u)) e

-- THE NEXT STATE

pub state_number : (o : Option ℕ) (r : Row) → (in_state o r).number ≡ r.number
state_number None r = refl
state_number (Some p) r = refl

-- the state of a row that is found after it was set
state_found : (n p : ℕ) (rs : List Row) (r : Row)
    → find (is_numbered n) (first_changed (is_numbered n) (in_state (Some p)) rs) ≡ Some r
    → r.state ≡ Some p
state_found n p [] r e = absurd (cc)
state_found n p (x ∷ xs) r e = one (nat_eq n x.number) refl (state_found n p xs r) e
  where
    rest : List Row
    rest = first_changed (is_numbered n) (in_state (Some p)) xs

    one : (b : Bool) → nat_eq n x.number ≡ b
        → (find (is_numbered n) rest ≡ Some r → r.state ≡ Some p)
        → find (is_numbered n) (if b then in_state (Some p) x ∷ xs else x ∷ rest) ≡ Some r
        → r.state ≡ Some p
    one true g k e = sym (ap (λ (y : Row). y.state) (some_is (in_state (Some p) x) r
        (sym (ap (λ b. if b then Some (in_state (Some p) x) else find (is_numbered n) xs) g) ∙ e)))
    one false g k e =
        k (sym (ap (λ b. if b then Some x else find (is_numbered n) rest) g) ∙ e)

pub next_state_set : NextStateIsSet
next_state_set limit t s next f outs c u p r e h g d =
    firing_leads GoesOver (λ v. row_of v c.row.number ≡ Some r → r.state ≡ Some p)
    situations_go_over limit t s next f outs (λ x i v _ k. state_found c.row.number p v.rows r
    (subst (λ o. find (is_numbered c.row.number)
    (first_changed (is_numbered c.row.number) (in_state o) v.rows) ≡ Some r)
    (ap (option_and_then (declared_at t.outline)) g ∙ d)
    (subst (λ (y : Choice). row_of (completed limit t f y v) c.row.number ≡ Some r)
    (some_is x c (sym i ∙ h)) k))) e

-- CONNECTIONS

taken_peers : (t : Text) (o : Option InteractionPoint) (s : Situation)
    → KeepsPeers s (option_map_or (λ p. without_head t p s) o s)
taken_peers t None s h = h
taken_peers t (Some p) s h = h

firing_peers : (limit : ℕ) (t : Text) (s next : Situation) (f : Firing) (outs : List Event)
    → outcome limit t s f ≡ Done outs next → KeepsPeers s next
firing_peers limit t s next f outs e =
    firing_leads KeepsPeers (KeepsPeers s) peers_stay_mutual limit t s next f outs
    (λ c _ u g h. g (taken_peers t (taking_point limit t s c) s h)) e

pub firings_are_orderly : FiringsAreOrderly
firings_are_orderly = record { goes_over = firing_goes; connections = firing_peers }

-- THE START

start_goes : (limit : ℕ) (t : Text) (s : Situation) (outs : List Event)
    → start_of limit t ≡ Done outs s → GoesOver no_instances s
start_goes limit t s outs e =
    start_leads GoesOver (GoesOver no_instances) situations_go_over limit t s outs
    (λ u g. (goes_kept t).after no_instances u (restamped limit t None u) g
    (stamped_goes limit t None u)) e

start_peers : (limit : ℕ) (t : Text) (s : Situation) (outs : List Event)
    → start_of limit t ≡ Done outs s → KeepsPeers no_instances s
start_peers limit t s outs e =
    start_leads KeepsPeers (KeepsPeers no_instances) peers_stay_mutual limit t s outs
    (λ u g h. g h) e

pub starts_begin_in_order : StartsBeginInOrder
starts_begin_in_order limit t s outs e = let g = start_goes limit t s outs e in record {
  clock = g.clock;
  numbers = g.numbers numbered_first;
  connections = start_peers limit t s outs e mutual_first;
}

-- DEPARTURES

-- the events of what is done are departures
abbrev OutsLeave : Outcome Situation (List Event) → Type 0
OutsLeave (Done outs s) = All IsDeparture outs
OutsLeave (Fault f) = Unit {0}
OutsLeave Limit = Unit {0}

through_leaves : (t : Text) (i : Item) (port : ℕ) (o : Option ℕ) (es : List Event)
    → AllByRecursion IsDeparture es
    → AllByRecursion IsDeparture (cons_option (option_map
    (λ signal. event.Leaves (record { port = port; signal = signal; values = i.values })) o) es)
through_leaves t i port None es h = h
through_leaves t i port (Some signal) es h = (tt, h)

departure_leaves : (t : Text) (i : Item) (o : Option ℕ) (es : List Event)
    → AllByRecursion IsDeparture es
    → AllByRecursion IsDeparture (cons_option (option_and_then (departure_through t i) o) es)
departure_leaves t i None es h = h
departure_leaves t i (Some port) es h = through_leaves t i port
    (position (is_signal t i.at i.signal) (signals_at t port)) es h

departures_leave : (t : Text) (items : List Item) → AllByRecursion IsDeparture (departures t items)
departures_leave t [] = tt
departures_leave t (i ∷ items) = departure_leaves t i
    (position (is_port t i.at) (ports_of t.spec)) (departures t items) (departures_leave t items)

finished_leave : (t : Text) (finish : Situation → Situation) (o : Outcome Sent (Unit {0}))
    → OutsLeave (finished t finish o)
finished_leave t finish (Done a x) =
    All-from_recursion IsDeparture (departures t x.outs) (departures_leave t x.outs)
finished_leave t finish (Fault f) = tt
finished_leave t finish Limit = tt

firing_leaves : (limit : ℕ) (t : Text) (s : Situation) (f : Firing)
    → OutsLeave (outcome limit t s f)
unfolding outcome
firing_leaves limit t s f = by_option OutsLeave (fired_by limit t s f) (choice_of t s f)
    (Fault Undefined) (λ c _. by_option OutsLeave (fired_in limit t s f c) (view_of limit t s c)
    (Fault Undefined)
    (λ v _. finished_leave t (completed limit t f c) (performed_in limit t s c v)) tt) tt

start_leaves : (limit : ℕ) (t : Text) → OutsLeave (start_of limit t)
unfolding start_of
start_leaves limit t = finished_leave t (restamped limit t None) (start_before t limit)

pub only_departures : OnlyDeparturesCome
only_departures = record {
  start = λ limit t s outs e. subst OutsLeave e (start_leaves limit t);
  firing = λ limit t s next f outs e. subst OutsLeave e (firing_leaves limit t s f);
}
