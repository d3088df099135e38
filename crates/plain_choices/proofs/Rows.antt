-- Rows in ascending number, one after another.
use Rattle.std.proofs.Common.{◌≡◌, ◌<◌, ◌≤◌, ◌+◌, refl, sym, ap, subst, ◌∙◌, inl, inr, ℕ, Bool}
use Rattle.std.proofs.Common.{true, false, cond, List, [], ◌∷◌, Option, Some, None, arith, length}
use Rattle.std.proofs.Common.{drop, nat_eq, eq-eqb, zero, suc}
use Rattle.std.specs.Prelude.{find, slice_get, option_and_then}
use Rattle.std.specs.Option.{option_map, option_map_or}
use Rattle.est_meaning.proofs.Options.{map_some}
use Rattle.plain_choices.specs.declared.offers.Instance.{Instance}
use Rattle.std.proofs.lemmas.Bool.{cases_lt, eqb-true}
use Rattle.est_syntax.specs.Least.{IsIn}
use Rattle.est_meaning.specs.mean_blocks.declared.situation.Row.{Row}
use Rattle.est_meaning.specs.mean_blocks.TextByPlace.{Text}
use Rattle.est_meaning.specs.mean_blocks.GlobalSituation.{Situation, row_of, is_numbered}
use Rattle.est_meaning.specs.mean_blocks.KeepingLaws.{AscendBelow, AreNumbered}
use Rattle.est_meaning.specs.declared.firing.Firing.{Firing}
use Rattle.est_meaning.specs.TransitionChoices.{Choice, choice_in, is_choice}
use Rattle.est_meaning.specs.TransitionSelection.{is_offered_choice, is_offered}
use Rattle.est_meaning.specs.declared.answers.Offers.TheVariants.{Settled}
use Rattle.est_meaning.specs.FiringOrder.{IsAscending}
use Rattle.plain_choices.specs.declared.found.Found.{Found}
use Rattle.plain_choices.specs.inside.InstanceOffers.{instance_of, IsLiving}
use Rattle.plain_choices.specs.inside.SystemOffers.{IsFound, IsAllFound, AreSorted}
use Rattle.plain_choices.proofs.Findings.{due_offered, sorted_none}
use Rattle.plain_choices.proofs.Surveys.{not_both}

-- ROWS

-- the rows from a position on are those of the instances from a number on
pub record AreFrom (s : Situation) (at n : ℕ) : Type 0 where
  pub ascend : AscendBelow n s.next (drop at s.rows)
  pub found : (m : ℕ) → n ≤ m → row_of s m ≡ find (is_numbered m) (drop at s.rows)

weaker : (rs : List Row) (next n : ℕ) → AscendBelow 1 next rs → AscendBelow 0 next rs
weaker [] next n h = tt
weaker (r ∷ rs) next n h = (omega arith, h.1, h.2)

pub from_first : (s : Situation) → AreNumbered s → AreFrom s 0 0
from_first s h = record { ascend = weaker s.rows s.next 0 h.1; found = λ m le. refl }

other : (m n : ℕ) → m < n → nat_eq m n ≡ false
other m n lt = by (nat_eq m n) refl
  where
    by : (b : Bool) → nat_eq m n ≡ b → nat_eq m n ≡ false
    by false e = e
    by true e = (let q : m ≡ n = eqb-true m n e in absurd (omega arith))

none_below : (rs : List Row) (least next m : ℕ) → AscendBelow least next rs → m < least
    → find (is_numbered m) rs ≡ None
none_below [] least next m h lt = refl
none_below (r ∷ rs) least next m h lt =
    let l : least ≤ r.number = h.0 in
    ap (λ b. cond b (Some r) (find (is_numbered m) rs)) (other m r.number (omega arith))
    ∙ none_below rs (r.number + 1) next m h.2 (omega arith)

row_first : (m : ℕ) (r : Row) (rs : List Row) → m ≡ r.number
    → find (is_numbered m) (r ∷ rs) ≡ Some r
row_first m r rs e = ap (λ b. cond b (Some r) (find (is_numbered m) rs)) (eq-eqb m r.number e)

row_later : (m : ℕ) (r : Row) (rs : List Row) → nat_eq m r.number ≡ false
    → find (is_numbered m) (r ∷ rs) ≡ find (is_numbered m) rs
row_later m r rs e = ap (λ b. cond b (Some r) (find (is_numbered m) rs)) e

pub from_position : {A : Type 0} (xs : List A) (i : ℕ) (x : A) → slice_get xs i ≡ Some x
    → drop i xs ≡ x ∷ drop (i + 1) xs
from_position [] i x e = absurd (cc)
from_position (y ∷ xs) zero x e = let q : y ≡ x = cc in ap (λ z. z ∷ xs) q
from_position (y ∷ xs) (suc i) x e = from_position xs i x e
    ∙ ap (λ j. x ∷ drop j (y ∷ xs)) (later i)
  where
    later : (k : ℕ) → suc (k + 1) ≡ suc k + 1
    later k = omega arith

pub from_past : {A : Type 0} (xs : List A) (i : ℕ) → slice_get xs i ≡ None → drop i xs ≡ []
from_past [] zero e = refl
from_past [] (suc i) e = refl
from_past (y ∷ xs) zero e = absurd (cc)
from_past (y ∷ xs) (suc i) e = from_past xs i e

pub from_length : {A : Type 0} (xs : List A) (i : ℕ) → length xs ≤ i → drop i xs ≡ []
from_length [] zero h = refl
from_length [] (suc i) h = refl
from_length (y ∷ xs) zero h = absurd (omega (arith, h))
from_length (y ∷ xs) (suc i) h = from_length xs i (omega (arith, h))

module _ (s : Situation) (at n : ℕ) (k : AreFrom s at n) (r : Row)
    (here : slice_get s.rows at ≡ Some r) where
  rows_here : drop at s.rows ≡ r ∷ drop (at + 1) s.rows
  rows_here = from_position s.rows at r here

  ascend_here : AscendBelow n s.next (r ∷ drop (at + 1) s.rows)
  ascend_here = subst (AscendBelow n s.next) rows_here k.ascend

  found_here : (m : ℕ) → n ≤ m → row_of s m ≡ find (is_numbered m) (r ∷ drop (at + 1) s.rows)
  found_here m le = k.found m le ∙ ap (find (is_numbered m)) rows_here

  pub least_here : n ≤ r.number
  least_here = ascend_here.0

  -- no instance stands between
  pub none_between : (m : ℕ) → n ≤ m → m < r.number → row_of s m ≡ None
  none_between m le lt = found_here m le
      ∙ row_later m r (drop (at + 1) s.rows) (other m r.number lt)
      ∙ none_below (drop (at + 1) s.rows) (r.number + 1) s.next m ascend_here.2 (omega (arith, lt))

  pub row_here : row_of s r.number ≡ Some r
  row_here = found_here r.number least_here
      ∙ row_first r.number r (drop (at + 1) s.rows) refl

  pub from_next : AreFrom s (at + 1) (r.number + 1)
  from_next = record {
    ascend = ascend_here.2;
    found = λ m le.
        let l : n ≤ r.number = least_here in
        found_here m (omega (arith, le))
        ∙ row_later m r (drop (at + 1) s.rows) (unlike m (omega (arith, le)));
  }
    where
      unlike : (m : ℕ) → r.number < m → nat_eq m r.number ≡ false
      unlike m lt = by (nat_eq m r.number) refl
        where
          by : (b : Bool) → nat_eq m r.number ≡ b → nat_eq m r.number ≡ false
          by false e = e
          by true e = (let q : m ≡ r.number = eqb-true m r.number e in absurd (omega arith))

-- FOUND

-- an instance that does not live has no choice
pub lifeless : (test : Choice → Bool) (t : Text) (s : Situation) (f : Firing)
    → row_of s f.instance ≡ None → is_choice test t s f ≡ false
lifeless test t s f e = ap (λ o. option_map_or test (option_and_then (choice_in t f) o) false) e

pub found_skips : (limit : ℕ) (t : Text) (s : Situation) (n m : ℕ) (x : Found) → n ≤ m
    → ((k : ℕ) → n ≤ k → k < m → row_of s k ≡ None) → IsFound limit t s n x
    → IsFound limit t s m x
found_skips limit t s n m x le none v = record {
  settled = λ f h. elim (cases_lt f.instance n) [
    | inl a ↦ v.settled f a
    | inr a ↦ lifeless _ t s f (none f.instance a h)
  ];
  ascending = v.ascending;
  within = λ f a. (let l : f.instance < n = v.within f a in omega arith);
  sound = v.sound;
  complete = λ f h u. elim (cases_lt f.instance n) [
    | inl a ↦ v.complete f a u
    | inr a ↦ absurd (not_both (is_offered limit t s f) u.offered
        (lifeless (is_offered_choice limit t s) t s f (none f.instance a h)))
  ];
  dues_sorted = v.dues_sorted;
  dues_within = λ k a. (let l : k < n = v.dues_within k a in omega arith);
  dues_sound = v.dues_sound;
  dues_complete = λ g h d. elim (cases_lt g.instance n) [
    | inl a ↦ v.dues_complete g a d
    | inr a ↦ absurd (not_both (is_offered limit t s g) (due_offered limit t s g d)
        (lifeless (is_offered_choice limit t s) t s g (none g.instance a h)))
  ];
}

pub found_none : (limit : ℕ) (t : Text) (s : Situation) (x : Found) → x.firings.items ≡ []
    → x.dues.items ≡ [] → IsFound limit t s 0 x
found_none limit t s x e d = record {
  settled = λ f h. absurd (omega (arith, h));
  ascending = subst IsAscending (sym e) tt;
  within = λ f a. absurd (subst (IsIn f) e a);
  sound = λ f a. absurd (subst (IsIn f) e a);
  complete = λ f h u. absurd (omega (arith, h));
  dues_sorted = subst AreSorted (sym d) sorted_none;
  dues_within = λ n a. absurd (subst (IsIn n) d a);
  dues_sound = λ n a. absurd (subst (IsIn n) d a);
  dues_complete = λ g h k. absurd (omega (arith, h));
}

-- what is found of the instances whose rows stand before a position
pub record IsFoundAt (limit : ℕ) (t : Text) (s : Situation) (at : ℕ) (x : Found) : Type 0 where
  pub number : ℕ
  pub rows : AreFrom s at number
  pub found : IsFound limit t s number x

module _ (limit : ℕ) (t : Text) (s : Situation) (at : ℕ) (x : Found)
    (v : IsFoundAt limit t s at x) where
  -- at an instance
  pub found_at : (r : Row) → slice_get s.rows at ≡ Some r → IsFound limit t s r.number x
  found_at r here = found_skips limit t s v.number r.number x
      (least_here s at v.number v.rows r here)
      (none_between s at v.number v.rows r here) v.found

  pub living_at : (r : Row) → slice_get s.rows at ≡ Some r → IsLiving s (instance_of r)
  living_at r here = (r, row_here s at v.number v.rows r here, refl)

  pub found_next : (y : Found) (r : Row) → slice_get s.rows at ≡ Some r
      → IsFound limit t s (r.number + 1) y → IsFoundAt limit t s (at + 1) y
  found_next y r here w = record {
    number = r.number + 1;
    rows = from_next s at v.number v.rows r here;
    found = w;
  }

  -- after the last instance
  pub found_end : drop at s.rows ≡ [] → IsAllFound limit t s x Settled
  found_end e = (
    v.number,
    v.found,
    λ m le. v.rows.found m le ∙ ap (find (is_numbered m)) e,
  )

unmapped : {A B : Type 0} (f : A → B) (o : Option A) → None ≡ option_map f o → o ≡ None
unmapped f None h = refl
unmapped f (Some a) h = absurd (cc)

-- the instance at a position, as it was looked up
module _ (limit : ℕ) (t : Text) (s : Situation) (at : ℕ) (x : Found)
    (v : IsFoundAt limit t s at x) where
  pub none_at : None ≡ option_map instance_of (slice_get s.rows at)
      → IsAllFound limit t s x Settled
  none_at e = found_end limit t s at x v
      (from_past s.rows at (unmapped instance_of (slice_get s.rows at) e))

  module _ (y : Instance) (e : Some y ≡ option_map instance_of (slice_get s.rows at)) where
    here : (r : Row) × (slice_get s.rows at ≡ Some r) × (instance_of r ≡ y)
    here = map_some instance_of (slice_get s.rows at) y (sym e)

    pub is_living : IsLiving s y
    is_living = subst (IsLiving s) here.2 (living_at limit t s at x v here.0 here.1)

    pub is_found : IsFound limit t s y.number x
    is_found = subst (λ (z : Instance). IsFound limit t s z.number x) here.2
        (found_at limit t s at x v here.0 here.1)

    pub is_next : (z : Found) → IsFound limit t s (y.number + 1) z → IsFoundAt limit t s (at + 1) z
    is_next z w = found_next limit t s at x v z here.0 here.1
        (subst (λ (k : Instance). IsFound limit t s (k.number + 1) z) (sym here.2) w)
