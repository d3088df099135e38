-- Choices, and the parts of their guards.
use Rattle.std.proofs.Common.{◌≡◌, refl, sym, subst, ap, ◌∙◌, ℕ, ℤ, Bool, true, false}
use Rattle.std.proofs.Common.{List, [], ◌∷◌, ◌++◌, map, Option, Some, None, is_some, ◌&&◌}
use Rattle.std.proofs.Common.{◌||◌}
use Rattle.std.specs.Prelude.{option_and_then, if◌then◌else◌}
use Rattle.std.specs.List.{list_all, list_any}
use Rattle.std.specs.Option.{option_map, option_map_or}
use Rattle.est_syntax.specs.declared.expression.Expr.{Expr}
use Rattle.mean_blocks.specs.Outcome.{Done, Fault, Limit}
use Rattle.mean_blocks.specs.TextByPlace.{Text}
use Rattle.mean_blocks.specs.GlobalSituation.{Frame, Situation}
use Rattle.mean_blocks.specs.NamesInRuns.{declared_at}
use Rattle.mean_blocks.specs.WorkingState.{View}
use Rattle.est_meaning.specs.ClauseContexts.{Awaited, Condition, Always, Provided}
use Rattle.est_meaning.specs.ClauseContexts.{Otherwise, when_of, delay_of, condition_of}
use Rattle.est_meaning.specs.TransitionChoices.{Choice}
use Rattle.est_meaning.specs.GuardParts.{Part, part_of, is_limit, ordinals_by, is_met}
use Rattle.est_meaning.specs.GuardParts.{is_unmet, is_done, seen_by, is_from, subscripts_at}
use Rattle.est_meaning.specs.GuardParts.{subscripts, point_at, awaited_point, arrived_through}
use Rattle.est_meaning.specs.GuardParts.{awaited_item, frames_of, view_of}
use Rattle.est_meaning.specs.GuardParts.{conditions_in, is_provided, bounds_in}
use Rattle.est_meaning.specs.GuardParts.{is_least_reached, is_most_reached, asked}
use Rattle.est_meaning.specs.TransitionSelection.{holds, holds_least, holds_most}
use Rattle.est_meaning.specs.TransitionSelection.{is_enabled_choice, is_due_choice, is_waited}
use Rattle.est_meaning.specs.TransitionSelection.{age_of, clocked}
use Rattle.est_meaning.specs.SelectionLaws.{DueIsOfferedIsEnabled}
use Rattle.est_meaning.specs.SelectionLaws.{EnabledPassesNoLimit}

-- ENABLED, OFFERED AND DUE

left : (a b : Bool) → (a && b) ≡ true → a ≡ true
left true b e = refl
left false b e = absurd (cc)

right : (a b : Bool) → (a && b) ≡ true → b ≡ true
right true b e = e
right false b e = absurd (cc)

both : (a b : Bool) → a ≡ true → b ≡ true → (a && b) ≡ true
both true b e f = f
both false b e f = absurd (cc)

-- a test holds where another one does
pub implied : {A : Type 0} (f g : A → Bool) (o : Option A) → ((a : A) → f a ≡ true → g a ≡ true)
    → option_map_or f o false ≡ true → option_map_or g o false ≡ true
implied f g None h e = e
implied f g (Some a) h e = h a e

without_delay : (limit : ℕ) (t : Text) (s : Situation) (c : Choice) → delay_of c.transition ≡ None
    → is_enabled_choice limit t s c ≡ true → is_due_choice limit t s c ≡ true
without_delay limit t s c h e = implied (holds limit c) (holds_most limit s c) (view_of limit t s c)
    (λ v k. both (holds_least limit s c v) _ (both (holds limit c v) _ k
    (subst (λ o. is_waited (λ d age. is_least_reached limit d age v) o (age_of s (clocked c))
    ≡ true)
    (sym h) refl))
    (subst (λ o. is_waited (λ d age. is_most_reached limit d age v) o (age_of s (clocked c))
    ≡ true)
    (sym h) refl)) e

pub due_is_offered_is_enabled : DueIsOfferedIsEnabled
due_is_offered_is_enabled = record {
  due = λ limit t s c e. implied (holds_most limit s c) (holds_least limit s c)
      (view_of limit t s c) (λ v k. left (holds_least limit s c v) _ k) e;
  offered = λ limit t s c e. implied (holds_least limit s c) (holds limit c)
      (view_of limit t s c) (λ v k. left (holds limit c v) _ k) e;
  without_delay = without_delay;
}

-- LIMITS

any_append : (xs ys : List Part) → list_any is_limit xs ≡ false → list_any is_limit ys ≡ false
    → list_any is_limit (xs ++ ys) ≡ false
any_append [] ys h k = k
any_append (x ∷ xs) ys h k = one (is_limit x) (list_any is_limit xs) h
    (λ e. any_append xs ys e k)
  where
    one : (a b : Bool) → (a || b) ≡ false → (b ≡ false → list_any is_limit (xs ++ ys) ≡ false)
        → (a || list_any is_limit (xs ++ ys)) ≡ false
    one true b e g = e
    one false b e g = g e

met : (p : Part) → is_met p ≡ true → is_limit p ≡ false
met (Done z n) e = refl
met (Fault f) e = refl
met Limit e = absurd (cc)

unmet : (p : Part) → is_unmet p ≡ true → is_limit p ≡ false
unmet (Done z n) e = refl
unmet (Fault f) e = refl
unmet Limit e = absurd (cc)

valued : (p : Part) → is_done p ≡ true → is_limit p ≡ false
valued (Done z n) e = refl
valued (Fault f) e = refl
valued Limit e = absurd (cc)

-- parts each of which passes a test that none does which passes its limit
each : (test : Part → Bool) (part : Expr → Part) (es : List Expr)
    → ((p : Part) → test p ≡ true → is_limit p ≡ false)
    → list_all (λ e. test (part e)) es ≡ true → list_any is_limit (map part es) ≡ false
each test part [] h k = refl
each test part (e ∷ es) h k =
    ap (λ b. b || list_any is_limit (map part es)) (h (part e) (left _ _ k))
    ∙ each test part es h (right (test (part e)) _ k)

provided : (limit : ℕ) (y : Condition) (v : View) → is_provided limit y v ≡ true
    → list_any is_limit (map (λ e. part_of limit e v) (conditions_in y)) ≡ false
provided limit Always v h = refl
provided limit (Provided e) v h = ap (λ b. b || false) (met (part_of limit e v) h)
provided limit (Otherwise es) v h = each is_unmet (λ e. part_of limit e v) es unmet h

map_append : (f : Expr → Part) (xs ys : List Expr) → map f (xs ++ ys) ≡ map f xs ++ map f ys
map_append f [] ys = refl
map_append f (x ∷ xs) ys = ap (λ zs. f x ∷ zs) (map_append f xs ys)

asked_within : (limit : ℕ) (c : Choice) (v : View) → holds limit c v ≡ true
    → list_any is_limit (asked limit c.transition v) ≡ false
asked_within limit c v h =
    let part = (λ (e : Expr). part_of limit e v) in
    let y = condition_of c.transition in
    let d = delay_of c.transition in
    ap (list_any is_limit) (map_append part (conditions_in y) (bounds_in d))
    ∙ any_append (map part (conditions_in y)) (map part (bounds_in d))
    (provided limit y v (left _ _ h))
    (each is_done part (bounds_in d) valued (right (is_provided limit y v) _ h))

-- parts each of which has an ordinal
ordinals_within : (ps : List Part) → is_some (ordinals_by ps) ≡ true
    → list_any is_limit ps ≡ false
ordinals_within [] h = refl
ordinals_within (Done z n ∷ ps) h = ordinals_within ps (inner (ordinals_by ps) h)
  where
    inner : (o : Option (List ℤ)) → is_some (option_map (λ zs. z ∷ zs) o) ≡ true
        → is_some o ≡ true
    inner None e = e
    inner (Some zs) e = refl
ordinals_within (Fault f ∷ ps) h = absurd (cc)
ordinals_within (Limit ∷ ps) h = absurd (cc)

and_then_some : {A B : Type 0} (f : A → Option B) (o : Option A)
    → is_some (option_and_then f o) ≡ true → is_some o ≡ true
and_then_some f None h = h
and_then_some f (Some a) h = refl

map_some : {A B : Type 0} (f : A → B) (o : Option A) → is_some (option_map f o) ≡ true
    → is_some o ≡ true
map_some f None h = h
map_some f (Some a) h = refl

point_within : (limit : ℕ) (t : Text) (s : Situation) (c : Choice) (w : Awaited) (o : Option ℕ)
    → is_some (option_and_then (point_at limit t s c w) o) ≡ true
    → list_any is_limit (option_map_or (subscripts_at limit t s c w) o []) ≡ false
point_within limit t s c w None h = refl
point_within limit t s c w (Some p) h = ordinals_within (subscripts_at limit t s c w p)
    (map_some _ (ordinals_by (subscripts_at limit t s c w p)) h)

when_within : (limit : ℕ) (t : Text) (s : Situation) (c : Choice) (o : Option Awaited)
    → is_some (frames_of limit t s c o) ≡ true
    → list_any is_limit (subscripts limit t s c o) ≡ false
when_within limit t s c None h = refl
when_within limit t s c (Some w) h = point_within limit t s c w (declared_at t.outline w.at.name)
    (and_then_some (arrived_through t s w.signal) (awaited_point limit t s c w)
    (map_some _ (awaited_item limit t s c w) h))

seen_within : (limit : ℕ) (t : Text) (s : Situation) (c : Choice) (b : Bool)
    (o : Option (List Frame)) (xs : List Part)
    → (is_some o ≡ true → list_any is_limit xs ≡ false)
    → option_map_or (holds limit c) (if b then option_map (seen_by t s c) o else None) false ≡ true
    → list_any is_limit ((if b then xs else []) ++ option_map_or (asked limit c.transition)
    (if b then option_map (seen_by t s c) o else None) []) ≡ false
seen_within limit t s c false o xs k h = absurd (cc)
seen_within limit t s c true None xs k h = absurd (cc)
seen_within limit t s c true (Some frames) xs k h = any_append xs
    (asked limit c.transition (seen_by t s c frames)) (k refl)
    (asked_within limit c (seen_by t s c frames) h)

pub enabled_passes_none : EnabledPassesNoLimit
enabled_passes_none limit t s c h = seen_within limit t s c (is_from t c)
    (frames_of limit t s c (when_of c.transition)) (subscripts limit t s c (when_of c.transition))
    (when_within limit t s c (when_of c.transition)) h
