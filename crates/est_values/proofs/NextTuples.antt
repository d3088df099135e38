-- The next tuple is found from the last ordinal on.
use Rattle.std.proofs.Common.{◌≡◌, refl, sym, ap, ◌∙◌, subst, arith, ℕ, zero, suc, ◌<◌, ◌≤◌}
use Rattle.std.proofs.Common.{ℤ, pos, ◌+ℤ◌, Bool, true, false, List, [], ◌∷◌, ◌++◌, length}
use Rattle.std.proofs.Common.{take, drop, set, get_or, Some, None}
use Rattle.std.specs.Prelude.{int_lt, if◌then◌else◌}
use Rattle.std.specs.List.{slice_index_or}
use Rattle.std.proofs.Common.{w32}
use Rattle.std.proofs.lemmas.Int.{to_z-of_z}
use mir.Val.{SFits, to_z, of_z}
use Rattle.est_syntax.specs.declared.kind.Kind.{Kind}
use Rattle.est_values.specs.FittingValues.{first_ordinal, last_ordinal}
use Rattle.est_values.specs.OrdinalTuples.{first_tuple, carried, next_tuple}

-- the tuple so far: what stands before a place as it was, and the first ordinals from there on,
-- where the rest has no next one
pub record IsCarried (ks : List Kind) (old new : List ℤ) (i : ℕ) : Type 0 where
  pub within : i ≤ length ks
  pub carries : new ≡ take i old ++ first_tuple (drop i ks)
  pub none : next_tuple (drop i ks) (drop i old) ≡ None

-- what is left of nothing has no next
none_left : (ks : List Kind) → next_tuple ks [] ≡ None
none_left [] = refl
none_left (k ∷ ks) = refl

none_after : (ks : List Kind) (old : List ℤ)
    → next_tuple (drop (length ks) ks) (drop (length ks) old) ≡ None
none_after [] old = refl
none_after (k ∷ ks) [] = none_left (drop (length ks) ks)
none_after (k ∷ ks) (z ∷ t) = none_after ks t

-- all of a tuple stands before its end
all_before : (ks : List Kind) (old : List ℤ) → length old ≡ length ks
    → old ≡ take (length ks) old ++ first_tuple (drop (length ks) ks)
all_before [] [] e = refl
all_before [] (z ∷ t) e = absurd (omega (arith, e))
all_before (k ∷ ks) [] e = absurd (omega (arith, e))
all_before (k ∷ ks) (z ∷ t) e = ap (λ l. z ∷ l) (all_before ks t (omega (arith, e)))

-- at the end nothing is carried
pub carried_end : (ks : List Kind) (old : List ℤ) → length old ≡ length ks
    → IsCarried ks old old (length ks)
carried_end ks old e = record {
  within = omega arith;
  carries = all_before ks old e;
  none = none_after ks old;
}

-- what stands before the place is as it was
same_before : (old s : List ℤ) (i : ℕ) (d : ℤ) → i < length old
    → get_or (take (suc i) old ++ s) i d ≡ get_or old i d
same_before [] s i d h = absurd (omega (arith, h))
same_before (z ∷ t) s zero d h = refl
same_before (z ∷ t) s (suc i) d h = same_before t s i d (omega (arith, h))

-- an ordinal is written there
set_before : (old s : List ℤ) (i : ℕ) (x : ℤ) → i < length old
    → set (take (suc i) old ++ s) i x ≡ take i old ++ x ∷ s
set_before [] s i x h = absurd (omega (arith, h))
set_before (z ∷ t) s zero x h = refl
set_before (z ∷ t) s (suc i) x h = ap (λ l. z ∷ l) (set_before t s i x (omega (arith, h)))

-- the tuple after the rest from a place on
next_at : (ks : List Kind) (old : List ℤ) (i : ℕ) (k : Kind) → length old ≡ length ks
    → i < length ks → k ≡ slice_index_or ks i k
    → next_tuple (drop (suc i) ks) (drop (suc i) old) ≡ None
    → next_tuple (drop i ks) (drop i old) ≡ carried k (drop (suc i) ks) (get_or old i (pos 0)) None
next_at [] old i k e h at none = absurd (omega (arith, h))
next_at (j ∷ ks) [] i k e h at none = absurd (omega (arith, e))
next_at (j ∷ ks) (z ∷ t) zero k e h at none =
    ap (carried j ks z) none ∙ ap (λ x. carried x ks z None) (sym at)
next_at (j ∷ ks) (z ∷ t) (suc i) k e h at none =
    next_at ks t i k (omega (arith, e)) (omega (arith, h)) at none

-- is that of the whole, with what stands before it
next_of_rest : (ks : List Kind) (old s : List ℤ) (i : ℕ) → length old ≡ length ks
    → i ≤ length ks → next_tuple (drop i ks) (drop i old) ≡ Some s
    → next_tuple ks old ≡ Some (take i old ++ s)
next_of_rest ks old s zero e h is = is
next_of_rest [] old s (suc i) e h is = absurd (omega (arith, h))
next_of_rest (k ∷ ks) [] s (suc i) e h is = absurd (omega (arith, e))
next_of_rest (k ∷ ks) (z ∷ t) s (suc i) e h is =
    ap (carried k ks z) (next_of_rest ks t s i (omega (arith, e)) (omega (arith, h)) is)

-- the first ordinals from a place on
first_at : (ks : List Kind) (i : ℕ) (k : Kind) → i < length ks → k ≡ slice_index_or ks i k
    → first_ordinal k ∷ first_tuple (drop (suc i) ks) ≡ first_tuple (drop i ks)
first_at [] i k h at = absurd (omega (arith, h))
first_at (j ∷ ks) zero k h at = ap (λ x. first_ordinal x ∷ first_tuple ks) at
first_at (j ∷ ks) (suc i) k h at = first_at ks i k (omega (arith, h)) at

module _ (ks : List Kind) (old new : List ℤ) (i m : ℕ) (k : Kind) where
  -- the ordinal before what is carried is as it was
  abbrev z : ℤ
  z = get_or new i (pos 0)

  as_it_was : length old ≡ length ks → m ≡ suc i → IsCarried ks old new m
      → z ≡ get_or old i (pos 0)
  as_it_was e is c =
      let d = subst (IsCarried ks old new) is c in
      ap (λ l. get_or l i (pos 0)) d.carries
      ∙ same_before old (first_tuple (drop (suc i) ks)) i (pos 0) (omega (arith, e, d.within))

  -- one that is not the last is raised, and the tuple is the next one
  pub raised : (x : ℤ) → length old ≡ length ks → m ≡ suc i → IsCarried ks old new m
      → k ≡ slice_index_or ks i k → int_lt z (last_ordinal k) ≡ true → x ≡ z +ℤ pos 1
      → next_tuple ks old ≡ Some (set new i x)
  raised x e is c at less more =
      let d = subst (IsCarried ks old new) is c in
      let h : i < length ks = omega (arith, d.within) in
      let s = first_tuple (drop (suc i) ks) in
      let was = as_it_was e is c in
      let rest : next_tuple (drop i ks) (drop i old) ≡ Some (x ∷ s) =
      next_at ks old i k e h at d.none
      ∙ ap (λ y. carried k (drop (suc i) ks) y None) (sym was)
      ∙ ap (λ b. if b then Some ((z +ℤ pos 1) ∷ s) else None) less
      ∙ ap (λ y. Some (y ∷ s)) (sym more) in
      next_of_rest ks old (x ∷ s) i e (omega (arith, h)) rest
      ∙ ap Some (sym (set_before old s i x (omega (arith, e, h)))
      ∙ ap (λ l. set l i x) (sym d.carries))

  -- one that is the last gives way to the first, and more is carried
  pub carried_more : length old ≡ length ks → m ≡ suc i → IsCarried ks old new m
      → k ≡ slice_index_or ks i k → int_lt z (last_ordinal k) ≡ false
      → IsCarried ks old (set new i (first_ordinal k)) i
  carried_more e is c at less =
      let d = subst (IsCarried ks old new) is c in
      let h : i < length ks = omega (arith, d.within) in
      let s = first_tuple (drop (suc i) ks) in
      record {
        within = omega (arith, h);
        carries = ap (λ l. set l i (first_ordinal k)) d.carries
            ∙ set_before old s i (first_ordinal k) (omega (arith, e, h))
            ∙ ap (λ l. take i old ++ l) (first_at ks i k h at);
        none = next_at ks old i k e h at d.none
            ∙ ap (λ y. carried k (drop (suc i) ks) y None) (sym (as_it_was e is c))
            ∙ ap (λ b. if b then Some ((z +ℤ pos 1) ∷ s) else None) less;
      }

-- where all is carried there is no next
pub none_at_first : (ks : List Kind) (old new : List ℤ) (i : ℕ) → i ≡ 0
    → IsCarried ks old new i → next_tuple ks old ≡ None
none_at_first ks old new i is c = (subst (IsCarried ks old new) is c).none

-- a test of two numbers of 32 bits is one of the numbers
pub same_test : (z last is : ℤ) (b : Bool) → SFits w32 z → SFits w32 last → last ≡ is
    → int_lt (to_z w32 (of_z w32 z)) (to_z w32 (of_z w32 last)) ≡ b → int_lt z is ≡ b
same_test z last is b f g e h =
    (λ i. int_lt (sym (to_z-of_z w32 z f) i) ((sym e ∙ sym (to_z-of_z w32 last g)) i)) ∙ h
