-- In each run values fit the kinds of what holds them, and what leaves may stand in a trace.
use Rattle.std.specs.Prelude.{slice_get, option_and_then, option_to_list, if◌then◌else◌}
use Rattle.std.specs.List.{AllByRecursion, AllZip, cons_option}
use Rattle.std.specs.Option.{option_map, option_map_or}
use Rattle.std.proofs.Common.{◌≡◌, refl, sym, subst, ℕ, Bool, true, false, List, [], ◌∷◌, ◌++◌}
use Rattle.std.proofs.Common.{map, Option, Some, None, zero, suc}
use Rattle.std.proofs.lemmas.Option.{none-some}
use Rattle.est_syntax.specs.declared.body.Block.{out-Block}
use Rattle.est_syntax.specs.declared.specification.Spec.{Spec}
use Rattle.est_syntax.specs.declared.statement.Statement.{Statement}
use Rattle.est_values.specs.FittingValues.{IsOrdinalOf, Fits}
use Rattle.rule_scope.specs.Outline.{Outline, names_of}
use Rattle.rule_scope.specs.declared.declaration.Sort.TheVariants as sort
use Rattle.rule_declares.specs.Bodies.{outline_of}
use Rattle.rule_declares.specs.PortList.{kinds_in}
use Rattle.mean_blocks.specs.declared.fault.BlockFault.TheVariants.{Undefined}
use Rattle.mean_blocks.specs.declared.situation.InteractionPoint.{InteractionPoint}
use Rattle.mean_blocks.specs.declared.situation.Item.{Item}
use Rattle.mean_blocks.specs.Outcome.{Outcome, Done, Fault, Limit}
use Rattle.mean_blocks.specs.TextByPlace.{Text, text_of}
use Rattle.mean_blocks.specs.GlobalSituation.{Frame, Situation}
use Rattle.mean_blocks.specs.WorkingState.{State, View}
use Rattle.mean_blocks.specs.NamesInRuns.{places_of, declared_at}
use Rattle.mean_blocks.specs.FunctionCalls.{unset}
use Rattle.mean_blocks.specs.OutputEffects.{Sent, arrived}
use Rattle.mean_blocks.specs.QueueEffects.{queue_of, head_at}
use Rattle.mean_blocks.specs.SightLaws.{sight}
use Rattle.mean_blocks.specs.BlockLevels.{beginning, block_meaning, left_by, most_levels, site}
use Rattle.mean_blocks.specs.StatementEffects.{statements_in}
use Rattle.mean_blocks.specs.StartMeaning.{no_instances, start_before}
use Rattle.est_meaning.specs.declared.event.Event.{Event}
use Rattle.est_meaning.specs.declared.firing.Firing.{Firing}
use Rattle.est_meaning.specs.AllowedEvents.{IsReceivable, IsAllowed}
use Rattle.est_meaning.specs.ClauseContexts.{FullTransition, Awaited, any_of, when_of, to_of}
use Rattle.est_meaning.specs.ClauseContexts.{transitions_of}
use Rattle.est_meaning.specs.TransitionChoices.{Choice, any_places, any_tuples, any_frame}
use Rattle.est_meaning.specs.TransitionChoices.{choice_by, choice_in, choice_of, numbered}
use Rattle.est_meaning.specs.GuardParts.{seen_by, is_from, awaited_point, came_through}
use Rattle.est_meaning.specs.GuardParts.{arrived_through, awaited_item, frames_of, view_of}
use Rattle.est_meaning.specs.DelayStamps.{restamped}
use Rattle.est_meaning.specs.OutsideEvents.{arrival, departure, departure_through, departures}
use Rattle.est_meaning.specs.OutsideEvents.{after_event}
use Rattle.est_meaning.specs.FiringSteps.{taking_point, without_awaited, block_frame}
use Rattle.est_meaning.specs.FiringSteps.{performed_in, with_next_state, completed, finished}
use Rattle.est_meaning.specs.FiringSteps.{fired_in, fired_by, outcome, start_of}
use Rattle.est_meaning.specs.declared.event.Event.TheVariants as event
use Rattle.est_meaning.specs.declared.trace.Expected.TheVariants.{Known}
use Rattle.est_meaning.proofs.Options.{then_some, map_some, by_option}
use Rattle.est_meaning.proofs.Outside.{ports_go_both_ways}
use Rattle.est_meaning.specs.declared.run.Move.TheVariants.{Take, Fire}
use Rattle.est_meaning.specs.Run.{Place, IsFromOutside}
use Rattle.est_meaning.proofs.RunLaws.{bounded_is_run}
use Rattle.law_runs.specs.UpkeepLaws.{OnDone}
use Rattle.law_runs.proofs.GivenThings.{Gives}
use Rattle.law_runs.proofs.ParentsOlder.{joined_all}
use Rattle.law_values.specs.SentInteractions.{JoinOneSide, LeavesAsSent}
use Rattle.law_values.specs.DepartureLaws.{IsSound, HasSent}
use Rattle.law_values.proofs.AllowedDepartures.{fitting_departures_are_allowed}
use Rattle.law_values.proofs.FaultlessBlocks.{IsFaultless, FaultlessBlocks, no_faults}
use Rattle.law_values.proofs.FaultlessBlocks.{blocks_faultless}
use Rattle.law_values.proofs.SendingRuns.{starts_send, firings_send, runs_send}
use Rattle.law_values.specs.FittingStates.{FrameFits, FramesFit, ItemFits, SituationFits}
use Rattle.law_values.specs.FittingStates.{StateFits}
use Rattle.law_values.specs.ValuesOfTypes.{IsYielded}
use Rattle.law_values.specs.SoundnessLaws.{IsTyped, ExpressionsFit, FitsSoFar, StartsFit}
use Rattle.law_values.specs.SoundnessLaws.{FiringsFit, MayCome, MayComeAsExpected, EventsFit}
use Rattle.law_values.specs.SoundnessLaws.{RunsFit, ExplainedTracesAreAllowed}
use Rattle.law_values.proofs.FittingFrames.{OnSome, found_one}
use Rattle.law_values.proofs.FittingArguments.{unset_fits}
use Rattle.law_values.proofs.FittingExpressions.{expr_yields}
use Rattle.law_values.proofs.FittingOrdinals.{tuples_are, tuple_fits}
use Rattle.law_values.proofs.FittingChanges.{taken_well, arrived_well, state_well}
use Rattle.law_values.proofs.FittingBlocks.{block_keeps, calls_keep}
use Rattle.law_values.proofs.SentValues.{HaveKinds, kinds_of, bound_fit, parameters_bound}
use Rattle.law_values.proofs.SentValues.{variables_have_kinds}
use Rattle.law_values.proofs.ArrivedSignals.{arrival_kinds}

-- LISTS

at_number : {A : Type 0} (P : A → Type 0) (xs : List A) (n : ℕ) → AllByRecursion P xs
    → OnSome P (slice_get xs n)
at_number P [] n h = tt
at_number P (x ∷ xs) zero h = h.0
at_number P (x ∷ xs) (suc n) h = at_number P xs n h.1

numbered_one : {A : Type 0} (P : A → Type 0) (xs : List A) (n : ℕ) (y : A) → AllByRecursion P xs
    → numbered xs n ≡ Some y → P y
numbered_one P xs zero y h e = absurd (none-some y e)
numbered_one P xs (suc n) y h e = subst (OnSome P) e (at_number P xs n h)

on_given : {A : Type 0} (P : A → Type 0) (x : Option A) (y : A) → OnSome P x → x ≡ Some y → P y
on_given P x y h e = subst (OnSome P) e h

one_listed : {A : Type 0} (P : A → Type 0) (x : Option A) → OnSome P x
    → AllByRecursion P (option_to_list x)
one_listed P None h = tt
one_listed P (Some x) h = (h, tt)

mapped_some : {A B : Type 0} (P : A → Type 0) (Q : B → Type 0) (f : A → B) (x : Option A)
    → ((a : A) → P a → Q (f a)) → OnSome P x → OnSome Q (option_map f x)
mapped_some P Q f None h g = tt
mapped_some P Q f (Some a) h g = h a g

-- what stands in a list that begins with some things
in_whole : {A : Type 0} (P : A → Type 0) (xs : List A) (y : A) (ys : List A)
    → AllByRecursion P (xs ++ y ∷ ys) → P y
in_whole P [] y ys h = h.0
in_whole P (x ∷ xs) y ys h = in_whole P xs y ys h.1

-- EVENTS

-- an event is that of a departure
abbrev Leaving : Event → Type 0
Leaving (event.Leaves i) = Unit {0}
Leaving (event.Arrives i) = ⊥
Leaving (event.Passes units) = ⊥

departure_leaves : (t : Text) (i : Item) (e : Event) → departure t i ≡ Some e → Leaving e
departure_leaves t i e h =
    let a = then_some (departure_through t i) _ e h in
    let b = map_some _ _ e a.2 in subst Leaving b.2 tt

module _ (spec : Spec) where
  abbrev o : Outline
  o = outline_of spec

  -- what leaves as it was sent may stand in a trace, where it was sent with values that fit
  leaves_allowed : (i : Item) (e : Event) → departure (text_of spec) i ≡ Some e → ItemFits o i
      → LeavesAsSent spec e → IsAllowed spec e
  leaves_allowed i (event.Leaves x) h fits sent =
      let k = arrival_kinds spec x i sent.port sent.signal
      (ports_go_both_ways (text_of spec) i x h) sent.port_is sent.signal_is in
      fitting_departures_are_allowed spec x sent
      (subst (λ ks. AllZip Fits ks x.values) (sym k.0)
      (subst (AllZip Fits (kinds_in o (names_of o i.signal))) (sym k.1) fits))
  leaves_allowed i (event.Arrives x) h fits sent =
      absurd (departure_leaves (text_of spec) i (event.Arrives x) h)
  leaves_allowed i (event.Passes units) h fits sent =
      absurd (departure_leaves (text_of spec) i (event.Passes units) h)

  all_allowed : (items : List Item) → AllByRecursion (ItemFits o) items
      → AllByRecursion (LeavesAsSent spec) (departures (text_of spec) items)
      → AllByRecursion (IsAllowed spec) (departures (text_of spec) items)
  all_allowed [] h g = tt
  all_allowed (i ∷ items) h g = one (departure (text_of spec) i) refl g (all_allowed items h.1)
    where
      one : (x : Option Event) → departure (text_of spec) i ≡ x
          → AllByRecursion (LeavesAsSent spec)
          (cons_option x (departures (text_of spec) items))
          → (AllByRecursion (LeavesAsSent spec) (departures (text_of spec) items)
          → AllByRecursion (IsAllowed spec) (departures (text_of spec) items))
          → AllByRecursion (IsAllowed spec)
          (cons_option x (departures (text_of spec) items))
      one None e sent rest = rest sent
      one (Some x) e sent rest = (leaves_allowed i x e h.0 sent.0, rest sent.1)

  -- what comes of a step: values that fit, and items that left with such
  record Fitting (events : List Event) (s : Situation) : Type 0 where
    situation : SituationFits o s
    items : List Item
    left : events ≡ departures (text_of spec) items
    fits : AllByRecursion (ItemFits o) items

  abbrev OnStep : Outcome Situation (List Event) → Type 0
  OnStep (Done outs s) = Fitting outs s
  OnStep (Fault f) = Unit {0}
  OnStep Limit = Unit {0}

  abbrev OnLeft : Outcome Sent (Unit {0}) → Type 0
  OnLeft (Done u x) = SituationFits o x.situation × AllByRecursion (ItemFits o) x.outs
  OnLeft (Fault f) = Unit {0}
  OnLeft Limit = Unit {0}

  left_fits : (x : Outcome State (Unit {0})) → OnDone (StateFits o) x → OnLeft (left_by x)
  left_fits (Done u s) h = (h.situation, h.sent)
  left_fits (Fault f) h = tt
  left_fits Limit h = tt

  finished_fits : (finish : Situation → Situation) (x : Outcome Sent (Unit {0}))
      → ((u : Situation) → SituationFits o u → SituationFits o (finish u)) → OnLeft x
      → OnStep (finished (text_of spec) finish x)
  finished_fits finish (Done u x) h g = record {
    situation = h x.situation g.0;
    items = x.outs;
    left = refl;
    fits = g.1;
  }
  finished_fits finish (Fault f) h g = tt
  finished_fits finish Limit h g = tt

  -- stamps do not matter
  restamped_fits : (limit : ℕ) (f : Option Firing) (u : Situation) → SituationFits o u
      → SituationFits o (restamped limit (text_of spec) f u)
  restamped_fits limit f u h = record { rows = h.rows; items = h.items }

  module _ (typed : IsTyped spec) where
    abbrev t : Text
    t = text_of spec

    faultless : FaultlessBlocks t
    faultless = blocks_faultless spec (no_faults spec typed.good)

    abbrev sound : IsSound spec
    sound = record { good = typed.good; full = typed.whole.full }

    block_fits : (n limit : ℕ) (fs : List Frame) (xs : List Statement) (s : Situation)
        → FramesFit o fs → IsFaultless o xs → SituationFits o s
        → OnLeft (block_meaning t n fs xs limit s)
    block_fits n limit fs xs s h g k =
        left_fits (statements_in xs (site t n false most_levels) (beginning s fs limit))
        (block_keeps t typed.whole typed.steady faultless most_levels n false xs g
        (beginning s fs limit) (record { situation = k; frames = h; sent = tt }))

    -- CHOICES

    any_fits : (x : FullTransition) (zs : List _) → AllZip IsOrdinalOf
        (kinds_of o typed.steady (any_places o x)) zs → FrameFits o (any_frame o x zs)
    any_fits x zs h =
        bound_fit o typed.steady (any_places o x) _ (have (any_of x))
        (tuple_fits (kinds_of o typed.steady (any_places o x)) zs h)
      where
        have : (a : Option ℕ)
            → HaveKinds o typed.steady (option_map_or (places_of o sort.Variable) a [])
        have None = tt
        have (Some region) = variables_have_kinds o typed.steady typed.whole.full region

    record IsFineChoice (c : Choice) : Type 0 where
      chosen : FrameFits o c.chosen
      block : IsFaultless o (out-Block c.transition.block).statements

    choice_fine : (s : Situation) (f : Firing) (c : Choice) → choice_of t s f ≡ Some c
        → IsFineChoice c
    choice_fine s f c h =
        let a = then_some (choice_in t f) _ c h in
        let b = then_some (choice_by t a.0 f.transition f.choice)
        (numbered (transitions_of t a.0.body) f.transition) c a.2 in
        let d = map_some _ (numbered (any_tuples o b.0) f.choice) c b.2 in
        subst IsFineChoice d.2 record {
          chosen = any_fits b.0 d.0 (numbered_one (AllZip IsOrdinalOf
              (kinds_of o typed.steady (any_places o b.0))) (any_tuples o b.0) f.choice d.0
              (tuples_are (kinds_of o typed.steady (any_places o b.0))) d.1);
          block = faultless.transitions a.0.body f.transition b.0 b.1;
        }

    block_frame_fits : (x : FullTransition) → FrameFits o (block_frame o x)
    block_frame_fits x = each (places_of o sort.Variable (out-Block x.block).place)
      where
        each : (ps : List ℕ) → FrameFits o (map (unset o) ps)
        each [] = tt
        each (p ∷ ps) = (unset_fits o typed.steady p, each ps)

    -- what a choice sees
    awaited_fits : (limit : ℕ) (s : Situation) (c : Choice) (w : Awaited) → SituationFits o s
        → OnSome (ItemFits o) (awaited_item limit t s c w)
    awaited_fits limit s c w h = by (awaited_point limit t s c w)
      where
        by : (p : Option InteractionPoint)
            → OnSome (ItemFits o) (option_and_then (arrived_through t s w.signal) p)
        by None = tt
        by (Some p) = found_one (ItemFits o) (came_through o w.signal p)
            (option_to_list (head_at t p s))
            (one_listed (ItemFits o) (head_at t p s)
            (at_number (ItemFits o) (s.queues (queue_of t p)) 0 (h.items (queue_of t p))))

    frames_fit : (limit : ℕ) (s : Situation) (c : Choice) (w : Option Awaited)
        → FrameFits o c.chosen → SituationFits o s
        → OnSome (FramesFit o) (frames_of limit t s c w)
    frames_fit limit s c None h g = (h, tt)
    frames_fit limit s c (Some w) h g =
        mapped_some (ItemFits o) (FramesFit o) _ (awaited_item limit t s c w)
        (λ i k. (h, (parameters_bound o typed.steady typed.whole.full i.signal i.values k, tt)))
        (awaited_fits limit s c w g)

    view_fits : (limit : ℕ) (s : Situation) (c : Choice) → FrameFits o c.chosen
        → SituationFits o s → OnSome (λ (v : View). FramesFit o v.frames) (view_of limit t s c)
    view_fits limit s c h g = by (is_from t c)
      where
        by : (b : Bool) → OnSome (λ (v : View). FramesFit o v.frames) (if b
            then option_map (seen_by t s c) (frames_of limit t s c (when_of c.transition))
            else None)
        by true = mapped_some (FramesFit o) (λ (v : View). FramesFit o v.frames) (seen_by t s c)
            (frames_of limit t s c (when_of c.transition)) (λ fs k. k)
            (frames_fit limit s c (when_of c.transition) h g)
        by false = tt

    -- FIRINGS

    performed_fits : (limit : ℕ) (s : Situation) (c : Choice) (v : View) → IsFineChoice c
        → FramesFit o v.frames → SituationFits o s → OnLeft (performed_in limit t s c v)
    performed_fits limit s c v fine h g =
        block_fits c.row.number limit (v.frames ++ block_frame o c.transition ∷ [])
        (out-Block c.transition.block).statements (without_awaited limit t s c)
        (joined_all (FrameFits o) v.frames (block_frame o c.transition ∷ []) h
        (block_frame_fits c.transition, tt)) fine.block
        (taken_well o t (taking_point limit t s c) s g)

    completed_fits : (limit : ℕ) (f : Firing) (c : Choice) (u : Situation) → SituationFits o u
        → SituationFits o (completed limit t f c u)
    completed_fits limit f c u h =
        restamped_fits limit (Some f) (with_next_state t c u)
        (state_well o c.row.number (option_and_then (declared_at o) (to_of c.transition)) u h)

    firing_fits : (limit : ℕ) (s : Situation) (f : Firing) → SituationFits o s
        → OnStep (outcome limit t s f)
    unfolding outcome
    firing_fits limit s f g =
        by_option OnStep (fired_by limit t s f) (choice_of t s f) (Fault Undefined)
        (λ c e. let fine = choice_fine s f c e in
        by_option OnStep (fired_in limit t s f c) (view_of limit t s c) (Fault Undefined)
        (λ v i. finished_fits (completed limit t f c) (performed_in limit t s c v)
        (completed_fits limit f c) (performed_fits limit s c v fine
        (on_given (λ (v : View). FramesFit o v.frames) (view_of limit t s c) v
        (view_fits limit s c fine.chosen g) i) g)) tt) tt

    -- STARTS

    start_fits : (limit : ℕ) → OnStep (start_of limit t)
    unfolding start_of
    start_fits limit = finished_fits (restamped limit t None) (start_before t limit)
        (restamped_fits limit None)
        (block_fits 0 limit [] (t.spec.first ∷ []) no_instances tt faultless.first
        (record { rows = tt; items = λ q. tt }))

    -- both at once
    so_far : (s : Situation) (outs : List Event) → HasSent spec s outs → Fitting outs s
        → FitsSoFar spec s outs
    so_far s outs sent fits = record {
      attachments = sent.attachments;
      situation = fits.situation;
      allowed = subst (AllByRecursion (IsAllowed spec)) (sym fits.left)
          (all_allowed fits.items fits.fits
          (subst (AllByRecursion (LeavesAsSent spec)) fits.left sent.departures));
    }

-- THE LAWS

pub expressions_fit : ExpressionsFit
expressions_fit spec typed n function levels s fs e x before left v h g is done =
    let t = text_of spec in
    subst (Gives (IsYielded typed.steady.sizes x)) done
    (expr_yields (sight t n function levels s fs) typed.steady h g
    (calls_keep t typed.whole typed.steady (faultless spec typed) levels) e x before is)

pub starts_fit : StartsFit
starts_fit limit spec s outs typed e =
    so_far spec typed s outs (starts_send limit spec s outs (sound spec typed) e)
    (subst (OnStep spec) e (start_fits spec typed limit))

pub firings_fit : FiringsFit
firings_fit limit spec s next f before outs typed e h =
    so_far spec typed next outs
    (firings_send limit spec s next f outs (sound spec typed) e h.attachments)
    (subst (OnStep spec) e (firing_fits spec typed limit s f h.situation))

pub events_fit : EventsFit
unfolding after_event IsReceivable
events_fit spec s (event.Arrives i) h g = by (arrival (text_of spec) i) refl
  where
    by : (x : Option Item) → arrival (text_of spec) i ≡ x
        → SituationFits (outline_of spec)
        (option_map_or (λ (x : Item). arrived (text_of spec) x.at x s) x s)
    by None e = g
    by (Some x) e =
        let k = arrival_kinds spec i x h.0 h.1 e h.2.port_is h.2.signal_is in
        arrived_well (outline_of spec) (text_of spec) x s
        (subst (λ ks. AllZip Fits ks x.values) k.0 (subst (AllZip Fits h.1.kinds) k.1 h.2.fits)) g
events_fit spec s (event.Leaves i) h g = g
events_fit spec s (event.Passes units) h g = record { rows = g.rows; items = g.items }

outside_allowed : (spec : Spec) (e : Event) → IsFromOutside e → MayCome spec e → IsAllowed spec e
outside_allowed spec (event.Arrives i) h g = g
outside_allowed spec (event.Leaves i) h g = absurd h
outside_allowed spec (event.Passes units) h g = g

pub runs_fit : RunsFit
runs_fit c [] p typed begun came r =
    subst (λ (w : Place). FitsSoFar c.spec w.situation w.events) (sym r)
    (starts_fit c.limit c.spec c.start c.start_outs typed begun)
runs_fit c (Take ∷ run) p typed begun came r = let x = r.2 in
    let h = runs_fit c run r.0 typed begun came r.1 in
    let k : MayCome c.spec x.event = in_whole (MayComeAsExpected c.spec) x.front (Known x.event)
    x.rest (subst (AllByRecursion (MayComeAsExpected c.spec)) x.next came) in
    let sent = runs_send c (Take ∷ run) p (sound c.spec typed) begun r in
    subst (λ (w : Place). FitsSoFar c.spec w.situation w.events) (sym x.leads) record {
      attachments = subst (λ (w : Place). JoinOneSide (outline_of c.spec) w.situation) x.leads
          sent.attachments;
      situation = events_fit c.spec r.0.situation x.event k h.situation;
      allowed = joined_all (IsAllowed c.spec) r.0.events (x.event ∷ []) h.allowed
          (outside_allowed c.spec x.event x.outside k, tt);
    }
runs_fit c (Fire f ∷ run) p typed begun came r = let x = r.2 in
    let h = runs_fit c run r.0 typed begun came r.1 in
    let g = firings_fit c.limit c.spec r.0.situation x.situation f r.0.events x.outs typed
    x.step.done h in
    subst (λ (w : Place). FitsSoFar c.spec w.situation w.events) (sym x.leads) record {
      attachments = g.attachments;
      situation = g.situation;
      allowed = joined_all (IsAllowed c.spec) r.0.events x.outs h.allowed g.allowed;
    }

pub explained_traces_are_allowed : ExplainedTracesAreAllowed
explained_traces_are_allowed c run typed begun came e =
    (runs_fit c run e.place typed begun came (bounded_is_run c run e.place e.is_run)).allowed
