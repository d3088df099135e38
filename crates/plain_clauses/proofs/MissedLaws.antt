-- What the choices of a candidate say whose `when` is missed, and whose subscripts never pass their
-- limit.
use Rattle.std.proofs.Common.{◌≡◌, refl, sym, ap, ◌∙◌, subst, ℕ, ℤ, Bool, true, false, not, ◌&&◌}
use Rattle.std.proofs.Common.{◌||◌, List, [], ◌∷◌, map, Option, Some, None, nat_eq, slice_get}
use Rattle.std.proofs.lemmas.Option.{none-some, same_Some}
use Rattle.std.specs.Prelude.{if◌then◌else◌, find, option_to_list, unwrap_or}
use Rattle.std.specs.Cmp.Lexicographic.{pointwise}
use Rattle.std.specs.List.{list_any}
use Rattle.std.specs.Option.{option_map_or}
use Rattle.std.specs.Ordering.{int_eq}
use Rattle.est_syntax.specs.declared.name.Used.{Used}
use Rattle.est_meaning.specs.mean_blocks.declared.situation.Item.{Item}
use Rattle.est_meaning.specs.mean_blocks.BlockLevels.{most_levels, site}
use Rattle.est_meaning.specs.mean_blocks.TextByPlace.{Text}
use Rattle.est_meaning.specs.mean_blocks.GlobalSituation.{Frame, QueueName, Situation, is_point}
use Rattle.est_meaning.specs.mean_blocks.InstancePoints.{point}
use Rattle.est_meaning.specs.mean_blocks.NamesInRuns.{dims_at, interaction_of}
use Rattle.est_meaning.specs.mean_blocks.QueueEffects.{head_at}
use Rattle.est_meaning.specs.mean_blocks.WorkingState.{View}
use Rattle.est_meaning.specs.ClauseContexts.{Awaited, when_of}
use Rattle.est_meaning.specs.TransitionChoices.{Choice}
use Rattle.est_meaning.specs.GuardParts.{Part, came_through, arrived_through, subscripts_of}
use Rattle.plain_queues.specs.plain_systems.HeldSystems.{is_waiting, waiting_in}
use Rattle.plain_queues.specs.plain_systems.declared.system.Waiting.{Waiting}
use Rattle.plain_transitions.specs.WrittenTransitions.{IsFixed}
use Rattle.plain_transitions.specs.declared.written.Fixed.{Fixed}
use Rattle.plain_clauses.specs.JudgedGuards.{IsOf, IsSight, IsVerdict, says_nothing}
use Rattle.plain_clauses.specs.declared.candidate.Candidate.{Candidate}
use Rattle.plain_clauses.specs.declared.sights.Sight.{Sight}
use Rattle.plain_clauses.specs.EvaluatedParts.{held, is_past, fits_places, ordinals_held}
use Rattle.plain_clauses.specs.JudgedClauses.{IsArrival, Takes, is_awaited, is_awaited_first}
use Rattle.plain_clauses.proofs.ArrivalLaws.{at_point, no_subscripts}
use Rattle.plain_clauses.proofs.JudgedLaws.{before, from_fails, from_holds, verdict_fails}
use Rattle.plain_clauses.proofs.PartLaws.{pasts_held}

-- what does not hold
pub unmet : (b : Bool) → not b ≡ true → b ≡ false
unmet true h = sym h
unmet false h = refl

-- QUEUES

neither : (a b : Bool) → a || b ≡ false → (a ≡ false) × (b ≡ false)
neither true b h = absurd (cc)
neither false b h = (refl, h)

-- what is found is one of those of which none is such
found_by : {T : Type 0} (is test : T → Bool) (y x : T) (ys : List T) (b : Bool)
    → is y || list_any is ys ≡ false
    → (list_any is ys ≡ false → find test ys ≡ Some x → is x ≡ false)
    → (if b then Some y else find test ys) ≡ Some x → is x ≡ false
found_by is test y x ys true h more e =
    ap is (sym (same_Some y x e)) ∙ (neither (is y) (list_any is ys) h).0
found_by is test y x ys false h more e = more (neither (is y) (list_any is ys) h).1 e

found_other : {T : Type 0} (is test : T → Bool) (xs : List T) (x : T) → list_any is xs ≡ false
    → find test xs ≡ Some x → is x ≡ false
found_other is test [] x h e = absurd (none-some x e)
found_other is test (y ∷ ys) x h e =
    found_by is test y x ys (test y) h (found_other is test ys x) e

-- where no queue has such a first item, the one of this name has none
pub no_head : (n : ℕ) (f : Fixed) (ws : List Waiting) (q : QueueName)
    → list_any (is_awaited_first n f) ws ≡ false
    → option_map_or (is_awaited n f) (slice_get (waiting_in ws q) 0) false ≡ false
no_head n f ws q h = by (find (is_waiting q) ws) refl
  where
    by : (o : Option Waiting) → find (is_waiting q) ws ≡ o → option_map_or (is_awaited n f)
        (slice_get (option_map_or (λ (w : Waiting). w.items) o []) 0) false ≡ false
    by None e = refl
    by (Some w) e = found_other (is_awaited_first n f) (is_waiting q) ws w h e

-- what is not awaited did not come through an interaction point of these subscripts
not_through : (a b c d : Bool) → a && (b && d) ≡ false → (a && (b && c)) && d ≡ false
not_through false b c d h = refl
not_through true false c d h = refl
not_through true true false d h = refl
not_through true true true d h = h

-- where no such item is first, none arrived
not_arrived : (t : Text) (s : Situation) (signal : Used) (n : ℕ) (f : Fixed) (zs : List ℤ)
    → interaction_of t.outline f.point signal ≡ Some f.signal
    → option_map_or (is_awaited n f) (head_at t (point n f.point zs) s) false ≡ false
    → arrived_through t s signal (point n f.point zs) ≡ None
not_arrived t s signal n f zs e h = by (head_at t (point n f.point zs) s) h
  where
    one : (i : Item) → is_awaited n f i ≡ false
        → came_through t.outline signal (point n f.point zs) i ≡ false
    one i g = ap (λ o. is_point (point n f.point zs) i.at
        && option_map_or (nat_eq i.signal) o false) e
        ∙ not_through (nat_eq n i.at.instance) (nat_eq f.point i.at.declared)
        (pointwise int_eq zs i.at.index) (nat_eq i.signal f.signal) g

    by : (o : Option Item) → option_map_or (is_awaited n f) o false ≡ false
        → find (came_through t.outline signal (point n f.point zs)) (option_to_list o) ≡ None
    by None g = refl
    by (Some i) g = ap (λ c. if c then Some i else None) (one i g)

-- CHOICES

module _ (limit : ℕ) (t : Text) (s : Situation) (x : Candidate) (chosen : Frame) (c : Choice)
    (of : IsOf t x chosen c) (fixed : Fixed) (missed : (zs : List ℤ)
    → option_map_or (is_awaited x.instance fixed) (head_at t (point x.instance fixed.point zs) s)
    false ≡ false) where
  abbrev nothing : Sight
  nothing = record { holds = false; taken = None; passes = false }

  abbrev seen : View
  seen = record {
    site = site t x.instance false most_levels;
    situation = s;
    frames = chosen ∷ [];
  }

  abbrev subscripts : Awaited → List Part
  subscripts w = subscripts_of limit (unwrap_or (dims_at t.outline fixed.point) []) w.at.index seen

  -- what is seen of a `when` that is this
  arrival : (w : Awaited) → IsFixed t.outline (Some w) (Some fixed)
      → IsArrival limit t s c (Some w) (chosen ∷ []) nothing
  arrival w f = by (ordinals_held (map held (subscripts w))) refl
    where
      past : false ≡ list_any is_past (map held (subscripts w))
      past = sym (pasts_held (subscripts w)
          ∙ f.0 limit (unwrap_or (dims_at t.outline fixed.point) []) seen refl)

      by : (o : Option (List ℤ)) → o ≡ ordinals_held (map held (subscripts w))
          → IsArrival limit t s c (Some w) (chosen ∷ []) nothing
      by None e = no_subscripts limit t s c w fixed.point f.1 x.instance (chosen ∷ [])
          (before limit t s x chosen c of (chosen ∷ []) refl) seen.site refl
          (map held (subscripts w)) refl (chosen ∷ []) nothing past e refl
      by (Some zs) e = at_point limit t s c w fixed.point f.1 x.instance (chosen ∷ [])
          (before limit t s x chosen c of (chosen ∷ []) refl) seen.site refl
          (map held (subscripts w)) refl (chosen ∷ []) nothing past zs e
          (subst (λ o. Takes t.outline (point x.instance fixed.point zs) o (chosen ∷ [])
          (chosen ∷ []) nothing)
          (sym (not_arrived t s w.signal x.instance fixed zs f.2 (missed zs))) refl)

  arrival_by : (w : Option Awaited) → IsFixed t.outline w (Some fixed)
      → IsArrival limit t s c w (chosen ∷ []) nothing
  arrival_by None f = absurd f
  arrival_by (Some w) f = arrival w f

  sight_by : (b : Bool) → fits_places x.transition.now.states x.state ≡ b
      → IsFixed t.outline (when_of c.transition) (Some fixed)
      → IsSight limit t s c (chosen ∷ []) nothing
  sight_by true h f = from_holds limit t s x chosen c of (chosen ∷ []) nothing h
      (subst (λ w. IsArrival limit t s c w (chosen ∷ []) nothing) (sym of.transition.awaits)
      (arrival_by (when_of c.transition) f))
  sight_by false h f = from_fails limit t s x chosen c of (chosen ∷ []) nothing h refl refl

  pub missed_verdict : x.transition.now.fixed ≡ Some fixed → IsVerdict limit t s c says_nothing
  missed_verdict e = verdict_fails limit t s c (chosen ∷ []) nothing
      (sight_by (fits_places x.transition.now.states x.state) refl
      (subst (IsFixed t.outline (when_of c.transition)) e of.transition.fixed))
      says_nothing refl refl refl refl refl
