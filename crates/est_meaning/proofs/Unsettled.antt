-- Where a part of a guard passes its limit, it does so after an event too.
use Rattle.std.proofs.Common.{◌≡◌, refl, sym, ap, ◌∙◌, ℕ, Bool, true, false, ◌||◌}
use Rattle.std.proofs.Common.{List, [], ◌∷◌, ◌++◌, map, Option, Some, None, ◌⊎◌, inl, inr}
use Rattle.std.proofs.lemmas.Bool.{eqb-true}
use Rattle.std.specs.Prelude.{find, slice_get, unwrap_or, option_and_then, option_to_list}
use Rattle.std.specs.Prelude.{if◌then◌else◌}
use Rattle.std.specs.List.{list_any}
use Rattle.std.specs.Option.{option_map, option_map_or}
use Rattle.mean_blocks.specs.declared.situation.InteractionPoint.{InteractionPoint}
use Rattle.mean_blocks.specs.declared.situation.Item.{Item}
use Rattle.mean_blocks.specs.Outcome.{◌>>=◌}
use Rattle.mean_blocks.specs.TextByPlace.{Text}
use Rattle.mean_blocks.specs.GlobalSituation.{Frame, Situation, QueueName, Own, Shared, is_queue}
use Rattle.mean_blocks.specs.NamesInRuns.{declared_at, dims_at}
use Rattle.mean_blocks.specs.ValueOperators.{ordinal}
use Rattle.mean_blocks.specs.Attachments.{bottom}
use Rattle.mean_blocks.specs.QueueEffects.{queue_of, head_at, passed_to}
use Rattle.mean_blocks.specs.OutputEffects.{arrived}
use Rattle.mean_blocks.proofs.MutualPeers.{point_same}
use Rattle.est_meaning.specs.declared.event.Event.{Event}
use Rattle.est_meaning.specs.declared.event.Event.TheVariants as event
use Rattle.est_meaning.specs.ClauseContexts.{Awaited, when_of, delay_of, condition_of}
use Rattle.est_meaning.specs.TransitionChoices.{Choice, choice_of}
use Rattle.est_meaning.specs.GuardParts.{Part, is_limit, seen_by, is_from, subscripts}
use Rattle.est_meaning.specs.GuardParts.{awaited_point, came_through, arrived_through}
use Rattle.est_meaning.specs.GuardParts.{awaited_item, parameters_of, frames_of, conditions_in}
use Rattle.est_meaning.specs.GuardParts.{bounds_in, asked}
use Rattle.est_meaning.specs.TransitionSelection.{passes_limit, IsSettled}
use Rattle.est_meaning.specs.OutsideEvents.{arrival, after_event}
use Rattle.est_meaning.specs.SelectionLaws.{EventsSettleNothing}
use Rattle.est_meaning.proofs.Guards.{implied}
use Rattle.est_meaning.proofs.Options.{then_some, map_some}
use Rattle.est_meaning.proofs.Outside.{events_are_outside}
use Rattle.est_meaning.proofs.Stamps.{values_same, subscripts_same, point_same as awaits_same}
use Rattle.est_meaning.proofs.Stamps.{choice_same}

-- LISTS OF PARTS

any_either : (xs ys : List Part) → list_any is_limit (xs ++ ys) ≡ true
    → (list_any is_limit xs ≡ true) ⊎ (list_any is_limit ys ≡ true)
any_either [] ys e = inr e
any_either (x ∷ xs) ys e = one (is_limit x) e (any_either xs ys)
  where
    one : (b : Bool) → (b || list_any is_limit (xs ++ ys)) ≡ true
        → (list_any is_limit (xs ++ ys) ≡ true
        → (list_any is_limit xs ≡ true) ⊎ (list_any is_limit ys ≡ true))
        → ((b || list_any is_limit xs) ≡ true) ⊎ (list_any is_limit ys ≡ true)
    one true e k = inl refl
    one false e k = k e

either_true : (a b : Bool) → b ≡ true → (a || b) ≡ true
either_true true b e = refl
either_true false b e = e

any_first : (xs ys : List Part) → list_any is_limit xs ≡ true
    → list_any is_limit (xs ++ ys) ≡ true
any_first [] ys e = absurd (cc)
any_first (x ∷ xs) ys e = one (is_limit x) e (any_first xs ys)
  where
    one : (b : Bool) → (b || list_any is_limit xs) ≡ true
        → (list_any is_limit xs ≡ true → list_any is_limit (xs ++ ys) ≡ true)
        → (b || list_any is_limit (xs ++ ys)) ≡ true
    one true e k = refl
    one false e k = k e

any_last : (xs ys : List Part) → list_any is_limit ys ≡ true → list_any is_limit (xs ++ ys) ≡ true
any_last [] ys e = e
any_last (x ∷ xs) ys e = either_true (is_limit x) _ (any_last xs ys e)

-- GUARDS

-- the first items of queues are first ones still
abbrev HeadsStay : Text → Situation → Situation → Type 0
HeadsStay t s u =
    (p : InteractionPoint) (i : Item) → head_at t p s ≡ Some i → head_at t p u ≡ Some i

found_head : (test : Item → Bool) (o : Option Item) (i : Item)
    → find test (option_to_list o) ≡ Some i → o ≡ Some i
found_head test None i e = absurd (cc)
found_head test (Some x) i e = one (test x) e
  where
    one : (b : Bool) → (if b then Some x else None) ≡ Some i → Some x ≡ Some i
    one true e = e
    one false e = absurd (cc)

module _ (limit : ℕ) (t : Text) (s u : Situation) (c : Choice) (h : u.rows ≡ s.rows)
    (heads : HeadsStay t s u) where
  subscripts_stay : (o : Option Awaited) → subscripts limit t u c o ≡ subscripts limit t s c o
  subscripts_stay None = refl
  subscripts_stay (Some w) = λ i. option_map_or
      (λ p. subscripts_same limit t s u c h (unwrap_or (dims_at t.outline p) []) w.at.index
      (c.chosen ∷ []) i) (declared_at t.outline w.at.name) []

  item_stays : (w : Awaited) (i : Item) → awaited_item limit t s c w ≡ Some i
      → awaited_item limit t u c w ≡ Some i
  item_stays w i e =
      let a = then_some (arrived_through t s w.signal) (awaited_point limit t s c w) i e in
      let test = came_through t.outline w.signal a.0 in
      let f = found_head test (head_at t a.0 s) i a.2 in
      ap (option_and_then (arrived_through t u w.signal)) (awaits_same limit t s u c h w ∙ a.1)
      ∙ ap (λ o. find test (option_to_list o)) (heads a.0 i f ∙ sym f) ∙ a.2

  frames_stay : (o : Option Awaited) (frames : List Frame) → frames_of limit t s c o ≡ Some frames
      → frames_of limit t u c o ≡ Some frames
  frames_stay None frames e = e
  frames_stay (Some w) frames e =
      let make : Item → List Frame = λ i. c.chosen ∷ parameters_of t.outline i ∷ [] in
      let a = map_some make (awaited_item limit t s c w) frames e in
      ap (option_map make) (item_stays w a.0 a.1) ∙ ap (λ x. Some x) a.2

  asked_stay : (frames : List Frame)
      → asked limit c.transition (seen_by t u c frames)
      ≡ asked limit c.transition (seen_by t s c frames)
  asked_stay frames = λ i. map (λ e. (values_same limit t s u c h e frames i >>= ordinal) limit)
      (conditions_in (condition_of c.transition) ++ bounds_in (delay_of c.transition))

  passes_still : (b : Bool) (m n : Option (List Frame)) (xs ys : List Part) → ys ≡ xs
      → ((frames : List Frame) → m ≡ Some frames → n ≡ Some frames)
      → list_any is_limit ((if b then xs else []) ++ option_map_or (asked limit c.transition)
      (if b then option_map (seen_by t s c) m else None) []) ≡ true
      → list_any is_limit ((if b then ys else []) ++ option_map_or (asked limit c.transition)
      (if b then option_map (seen_by t u c) n else None) []) ≡ true
  passes_still false m n xs ys e k g = absurd (cc)
  passes_still true m n xs ys e k g = one m k (any_either xs _ g)
    where
      after : Option (List Frame) → List Part
      after o = option_map_or (asked limit c.transition) (option_map (seen_by t u c) o) []

      one : (m : Option (List Frame)) → ((frames : List Frame) → m ≡ Some frames → n ≡ Some frames)
          → (list_any is_limit xs ≡ true) ⊎ (list_any is_limit (option_map_or
          (asked limit c.transition) (option_map (seen_by t s c) m) []) ≡ true)
          → list_any is_limit (ys ++ after n) ≡ true
      one m k (inl g) = any_first ys (after n) (ap (list_any is_limit) e ∙ g)
      one None k (inr g) = absurd (cc)
      one (Some frames) k (inr g) = any_last ys (after n)
          (ap (λ o. list_any is_limit (after o)) (k frames refl)
          ∙ ap (list_any is_limit) (asked_stay frames) ∙ g)

  passes_stay : passes_limit limit t s c ≡ true → passes_limit limit t u c ≡ true
  passes_stay e = let w = when_of c.transition in
      passes_still (is_from t c) (frames_of limit t s c w) (frames_of limit t u c w)
      (subscripts limit t s c w) (subscripts limit t u c w) (subscripts_stay w) (frames_stay w) e

-- EVENTS

queue_same : (a b : QueueName) → is_queue a b ≡ true → a ≡ b
queue_same (Own p) (Own q) e = ap Own (point_same p q e)
queue_same (Own p) (Shared n) e = absurd (cc)
queue_same (Shared n) (Own q) e = absurd (cc)
queue_same (Shared m) (Shared n) e = ap Shared (eqb-true m n e)

head_appended : (xs ys : List Item) (i : Item) → slice_get xs 0 ≡ Some i
    → slice_get (xs ++ ys) 0 ≡ Some i
head_appended [] ys i e = absurd (cc)
head_appended (x ∷ xs) ys i e = e

queue_head : (s : Situation) (q r : QueueName) (items : List Item) (i : Item) (b : Bool)
    → is_queue q r ≡ b → slice_get (s.queues r) 0 ≡ Some i
    → slice_get (if b then s.queues q ++ items else s.queues r) 0 ≡ Some i
queue_head s q r items i true e g = head_appended (s.queues q) items i
    (ap (λ x. slice_get (s.queues x) 0) (queue_same q r e) ∙ g)
queue_head s q r items i false e g = g

arrived_heads : (t : Text) (s : Situation) (o : Option Item)
    → HeadsStay t s (option_map_or (λ (x : Item). arrived t x.at x s) o s)
arrived_heads t s None p i e = e
arrived_heads t s (Some x) p i e = queue_head s (queue_of t (bottom s x.at)) (queue_of t p)
    (passed_to (bottom s x.at) x ∷ []) i (is_queue (queue_of t (bottom s x.at)) (queue_of t p))
    refl e

event_heads : (t : Text) (s : Situation) (e : Event) → HeadsStay t s (after_event t s e)
unfolding after_event
event_heads t s (event.Arrives i) p x e = arrived_heads t s (arrival t i) p x e
event_heads t s (event.Leaves i) p x e = e
event_heads t s (event.Passes units) p x e = e

pub events_settle_nothing : EventsSettleNothing
unfolding IsSettled
events_settle_nothing limit t s e settled f passes =
    let u = after_event t s e in
    let rows = (events_are_outside.leaves t s e).rows in
    settled f (ap (λ o. option_map_or (passes_limit limit t u) o false) (choice_same t s u f rows)
    ∙ implied (passes_limit limit t s) (passes_limit limit t u) (choice_of t s f)
    (λ c. passes_stay limit t s u c rows (event_heads t s e)) passes)
