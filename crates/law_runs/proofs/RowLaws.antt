-- Which instances live, and from which rows those of a later situation come.
use Rattle.std.proofs.Common.{◌≡◌, refl, sym, ap, subst, ◌∙◌, arith, ℕ, ◌+◌, ◌<◌, ◌≤◌, nat_eq}
use Rattle.std.proofs.Common.{Bool, true, false, ◌||◌, List, [], ◌∷◌, ◌++◌, Some}
use Rattle.std.proofs.Common.{is_some, inl, inr}
use Rattle.std.specs.Prelude.{if◌then◌else◌, find, ◌⊎◌}
use Rattle.std.specs.List.{filter}
use Rattle.std.proofs.lemmas.Bool.{eqb-true}
use Rattle.mean_blocks.specs.declared.situation.Row.{Row}
use Rattle.mean_blocks.specs.GlobalSituation.{first_changed, is_numbered}
use Rattle.mean_blocks.specs.InstanceEffects.{is_among, descendants}
use Rattle.mean_blocks.specs.KeepingLaws.{AscendBelow}
use Rattle.mean_blocks.proofs.MutualPeers.{eq_self}
use Rattle.law_runs.specs.AncestorLaws.{IsRowOf, AreInAge, IsBetween}
use Rattle.law_runs.specs.OrderLaws.{IsLiving}

pub true_false : (b : Bool) → b ≡ true → b ≡ false → ⊥
true_false b h k = cc

-- ROWS

pub to_joined : (xs ys : List Row) (r : Row) → IsRowOf xs r → IsRowOf (xs ++ ys) r
to_joined [] ys r h = absurd h
to_joined (x ∷ xs) ys r (inl e) = inl e
to_joined (x ∷ xs) ys r (inr h) = inr (to_joined xs ys r h)

pub to_end : (xs : List Row) (r : Row) → IsRowOf (xs ++ r ∷ []) r
to_end [] r = inl refl
to_end (x ∷ xs) r = inr (to_end xs r)

pub from_joined : (xs : List Row) (y r : Row) → IsRowOf (xs ++ y ∷ []) r
    → IsRowOf xs r ⊎ (y ≡ r)
from_joined [] y r (inl e) = inr e
from_joined [] y r (inr h) = absurd h
from_joined (x ∷ xs) y r (inl e) = inl (inl e)
from_joined (x ∷ xs) y r (inr h) = later (from_joined xs y r h)
  where
    later : IsRowOf xs r ⊎ (y ≡ r) → IsRowOf (x ∷ xs) r ⊎ (y ≡ r)
    later (inl k) = inl (inr k)
    later (inr e) = inr e

pub to_filtered : (test : Row → Bool) (xs : List Row) (r : Row) → IsRowOf xs r → test r ≡ true
    → IsRowOf (filter test xs) r
to_filtered test [] r h e = absurd h
to_filtered test (x ∷ xs) r (inl i) e =
    subst (λ b. IsRowOf (if b then x ∷ filter test xs else filter test xs) r)
    (sym (ap test i ∙ e)) (inl i)
to_filtered test (x ∷ xs) r (inr h) e = one (test x) (to_filtered test xs r h e)
  where
    one : (b : Bool) → IsRowOf (filter test xs) r
        → IsRowOf (if b then x ∷ filter test xs else filter test xs) r
    one true k = inr k
    one false k = k

pub from_filtered : (test : Row → Bool) (xs : List Row) (r : Row) → IsRowOf (filter test xs) r
    → IsRowOf xs r × (test r ≡ true)
from_filtered test [] r h = absurd h
from_filtered test (x ∷ xs) r h = one (test x) refl (from_filtered test xs r) h
  where
    one : (b : Bool) → test x ≡ b
        → (IsRowOf (filter test xs) r → IsRowOf xs r × (test r ≡ true))
        → IsRowOf (if b then x ∷ filter test xs else filter test xs) r
        → IsRowOf (x ∷ xs) r × (test r ≡ true)
    one true e k (inl i) = (inl i, ap test (sym i) ∙ e)
    one true e k (inr g) = let a = k g in (inr a.0, a.1)
    one false e k g = let a = k g in (inr a.0, a.1)

-- a row with the same number and parent is one of these
pub record HasRow (rs : List Row) (r : Row) : Type 0 where
  pub row : Row
  pub found : IsRowOf rs row
  pub number : row.number ≡ r.number
  pub parent : row.parent ≡ r.parent

-- each of these rows was one of those
abbrev pub From : List Row → List Row → Type 0
From rs us = (r : Row) → IsRowOf us r → HasRow rs r

-- a change leaves number and parent
abbrev pub IsMild : (Row → Row) → Type 0
IsMild change = (r : Row) → ((change r).number ≡ r.number) × ((change r).parent ≡ r.parent)

later_row : (rs : List Row) (x r : Row) → HasRow rs r → HasRow (x ∷ rs) r
later_row rs x r h =
    record { row = h.row; found = inr h.found; number = h.number; parent = h.parent }

pub from_changed : (test : Row → Bool) (change : Row → Row) → IsMild change → (rs : List Row)
    → From rs (first_changed test change rs)
from_changed test change m [] r h = absurd h
from_changed test change m (x ∷ xs) r h = one (test x) (from_changed test change m xs r) h
  where
    one : (b : Bool) → (IsRowOf (first_changed test change xs) r → HasRow xs r)
        → IsRowOf (if b then change x ∷ xs else x ∷ first_changed test change xs) r
        → HasRow (x ∷ xs) r
    one true k (inl e) = record {
      row = x;
      found = inl refl;
      number = sym (m x).0 ∙ ap (λ (y : Row). y.number) e;
      parent = sym (m x).1 ∙ ap (λ (y : Row). y.parent) e;
    }
    one true k (inr g) = record { row = r; found = inr g; number = refl; parent = refl }
    one false k (inl e) = record { row = r; found = inl e; number = refl; parent = refl }
    one false k (inr g) = later_row xs x r (k g)

pub to_changed : (test : Row → Bool) (change : Row → Row) → IsMild change → (rs : List Row)
    → From (first_changed test change rs) rs
to_changed test change m [] r h = absurd h
to_changed test change m (x ∷ xs) r h = one (test x) (to_changed test change m xs r) h
  where
    one : (b : Bool) → (IsRowOf xs r → HasRow (first_changed test change xs) r)
        → IsRowOf (x ∷ xs) r
        → HasRow (if b then change x ∷ xs else x ∷ first_changed test change xs) r
    one true k (inl e) = record {
      row = change x;
      found = inl refl;
      number = (m x).0 ∙ ap (λ (y : Row). y.number) e;
      parent = (m x).1 ∙ ap (λ (y : Row). y.parent) e;
    }
    one true k (inr g) = record { row = r; found = inr g; number = refl; parent = refl }
    one false k (inl e) = record { row = r; found = inl e; number = refl; parent = refl }
    one false k (inr g) = later_row (first_changed test change xs) x r (k g)

pub from_after : (rs us vs : List Row) → From rs us → From us vs → From rs vs
from_after rs us vs h k r g =
    let a = k r g in
    let b = h a.row a.found in
    record {
      row = b.row;
      found = b.found;
      number = b.number ∙ a.number;
      parent = b.parent ∙ a.parent;
    }

-- WHO LIVES

pub row_living : (rs : List Row) (r : Row) → IsRowOf rs r → IsLiving rs r.number
row_living [] r h = absurd h
row_living (x ∷ xs) r h = one (nat_eq r.number x.number) refl h (row_living xs r)
  where
    one : (b : Bool) → nat_eq r.number x.number ≡ b → IsRowOf (x ∷ xs) r
        → (IsRowOf xs r → IsLiving xs r.number)
        → is_some (if b then Some x else find (is_numbered r.number) xs) ≡ true
    one true e h k = refl
    one false e (inl i) k = absurd (true_false (nat_eq r.number x.number)
        (subst (λ (y : Row). nat_eq r.number y.number ≡ true) (sym i) (eq_self r.number)) e)
    one false e (inr g) k = k g

-- the row of a living instance
pub record HasNumber (rs : List Row) (n : ℕ) : Type 0 where
  pub row : Row
  pub found : IsRowOf rs row
  pub number : row.number ≡ n

pub living_row : (rs : List Row) (n : ℕ) → IsLiving rs n → HasNumber rs n
living_row [] n h = absurd (true_false false h refl)
living_row (x ∷ xs) n h = one (nat_eq n x.number) refl h (living_row xs n)
  where
    one : (b : Bool) → nat_eq n x.number ≡ b
        → is_some (if b then Some x else find (is_numbered n) xs) ≡ true
        → (IsLiving xs n → HasNumber xs n) → HasNumber (x ∷ xs) n
    one true e h k =
        record { row = x; found = inl refl; number = sym (eqb-true n x.number e) }
    one false e h k = let a = k h in
        record { row = a.row; found = inr a.found; number = a.number }

-- where each row has one of these, who lives there lives here
pub living_from : (rs us : List Row) → From us rs → (n : ℕ) → IsLiving rs n → IsLiving us n
living_from rs us h n g =
    let a = living_row rs n g in
    let b = h a.row a.found in
    subst (IsLiving us) (b.number ∙ a.number) (row_living us b.row b.found)

-- NUMBERS AND AGE

pub of_rows : (rs : List Row) (r : Row) → AreInAge rs → IsRowOf rs r → IsBetween r
of_rows [] r h g = absurd g
of_rows (x ∷ xs) r h (inl e) = subst IsBetween e h.0
of_rows (x ∷ xs) r h (inr g) = of_rows xs r h.1 g

pub within_numbers : (least next : ℕ) (rs : List Row) (r : Row) → AscendBelow least next rs
    → IsRowOf rs r → (least ≤ r.number) × (r.number < next)
within_numbers least next [] r h g = absurd g
within_numbers least next (x ∷ xs) r h (inl e) =
    subst (λ (y : Row). (least ≤ y.number) × (y.number < next)) e (h.0, h.1)
within_numbers least next (x ∷ xs) r h (inr g) =
    let a = within_numbers (x.number + 1) next xs r h.2 g in
    let b = h.0 in
    let c = a.0 in (omega (arith, b, c), a.1)

pub living_number : (least next : ℕ) (rs : List Row) (n : ℕ) → AscendBelow least next rs
    → IsLiving rs n → (least ≤ n) × (n < next)
living_number least next rs n h g =
    let a = living_row rs n g in
    subst (λ m. (least ≤ m) × (m < next)) a.number (within_numbers least next rs a.row h a.found)

-- WHO IS ABOVE

-- a climb along parents, of no step or of some, leads from an instance up to another
pub data IsUpTo (rs : List Row) (a : ℕ) : ℕ → Type 0 where
  here : (n : ℕ) → a ≡ n → IsUpTo rs a n
  child : (n : ℕ) (r : Row) → IsRowOf rs r → r.number ≡ n → IsUpTo rs a r.parent → IsUpTo rs a n

pub up_from : (rs us : List Row) → From rs us → (a n : ℕ) → IsUpTo us a n → IsUpTo rs a n
up_from rs us h a n (here m e) = here m e
up_from rs us h a n (child m r c e k) = let g = h r c in
    child m g.row g.found (g.number ∙ e)
    (subst (IsUpTo rs a) (sym g.parent) (up_from rs us h a r.parent k))

-- who is above is no younger
pub up_older : (rs : List Row) (a n : ℕ) → AreInAge rs → IsUpTo rs a n → a ≤ n
up_older rs a n h (here m e) = omega (arith, e)
up_older rs a n h (child m r c e k) =
    let g = up_older rs a r.parent h k in
    let d = (of_rows rs r h c).0 in omega (arith, g, d, e)

-- A NEW INSTANCE

module _ (rs : List Row) (new : Row) (old : (r : Row) → IsRowOf rs r → r.number < new.number)
    (age : AreInAge rs) where
  -- above an older instance is what was there
  pub old_up : (a k : ℕ) → k < new.number → IsUpTo (rs ++ new ∷ []) a k → IsUpTo rs a k
  old_up a k h (here m e) = here m e
  old_up a k h (child m r c e g) = one (from_joined rs new r c) (λ l. old_up a r.parent l g)
    where
      one : IsRowOf rs r ⊎ (new ≡ r) → (r.parent < new.number → IsUpTo rs a r.parent)
          → IsUpTo rs a m
      one (inl b) f = let d = (of_rows rs r age b).0 in
          child m r b e (f (omega (arith, d, e, h)))
      one (inr i) f = let j = ap (λ (y : Row). y.number) i in absurd (omega (arith, j, e, h))

  -- above the new one is what is above its parent, but for itself
  pub new_up : (a k : ℕ) → k ≡ new.number → a < new.number → new.parent < new.number
      → IsUpTo (rs ++ new ∷ []) a k → IsUpTo rs a new.parent
  new_up a k h b l (here m e) = absurd (omega (arith, h, b, e))
  new_up a k h b l (child m r c e g) = one (from_joined rs new r c)
    where
      one : IsRowOf rs r ⊎ (new ≡ r) → IsUpTo rs a new.parent
      one (inl d) = let f = old r d in absurd (omega (arith, f, e, h))
      one (inr i) = old_up a new.parent l
          (subst (IsUpTo (rs ++ new ∷ []) a) (ap (λ (y : Row). y.parent) (sym i)) g)

-- DESCENDANTS

pub among_left : (ns ms : List ℕ) (k : ℕ) → is_among ns k ≡ true → is_among (ns ++ ms) k ≡ true
among_left [] ms k h = absurd (true_false false h refl)
among_left (n ∷ ns) ms k h = one (nat_eq k n) h (among_left ns ms k)
  where
    one : (b : Bool) → (b || is_among ns k) ≡ true
        → (is_among ns k ≡ true → is_among (ns ++ ms) k ≡ true)
        → (b || is_among (ns ++ ms) k) ≡ true
    one true h g = refl
    one false h g = g h

pub among_last : (ns : List ℕ) (k : ℕ) → is_among (ns ++ k ∷ []) k ≡ true
among_last [] k = ap (λ b. b || false) (eq_self k)
among_last (n ∷ ns) k = one (nat_eq k n) (among_last ns k)
  where
    one : (b : Bool) → is_among (ns ++ k ∷ []) k ≡ true
        → (b || is_among (ns ++ k ∷ []) k) ≡ true
    one true g = refl
    one false g = g

among_one : (n k : ℕ) (b : Bool) → nat_eq k n ≡ b → (b || false) ≡ true → k ≡ n
among_one n k true e h = eqb-true k n e
among_one n k false e h = absurd (true_false false h refl)

pub among_self : (n k : ℕ) → is_among (n ∷ []) k ≡ true → k ≡ n
among_self n k h = among_one n k (nat_eq k n) refl h

pub among_split : (ns : List ℕ) (n k : ℕ) → is_among (ns ++ n ∷ []) k ≡ true
    → (is_among ns k ≡ true) ⊎ (k ≡ n)
among_split [] n k h = inr (among_self n k h)
among_split (m ∷ ns) n k h = one (nat_eq k m) h (among_split ns n k)
  where
    one : (b : Bool) → (b || is_among (ns ++ n ∷ []) k) ≡ true
        → (is_among (ns ++ n ∷ []) k ≡ true → (is_among ns k ≡ true) ⊎ (k ≡ n))
        → ((b || is_among ns k) ≡ true) ⊎ (k ≡ n)
    one true h g = inl refl
    one false h g = g h

-- what is reached from instances through one row more
abbrev grown : List ℕ → Row → Bool → List ℕ
grown ns r b = if b then ns ++ r.number ∷ [] else ns

pub grows : (rs : List Row) (ns : List ℕ) (k : ℕ) → is_among ns k ≡ true
    → is_among (descendants ns rs) k ≡ true
grows [] ns k h = h
grows (r ∷ rs) ns k h = grows rs (grown ns r (is_among ns r.parent)) k (one (is_among ns r.parent))
  where
    one : (b : Bool) → is_among (grown ns r b) k ≡ true
    one true = among_left ns (r.number ∷ []) k h
    one false = h

-- descendants are below the one that they are of
pub descend : (all : List Row) (i : ℕ) (rs : List Row) (ns : List ℕ)
    → ((r : Row) → IsRowOf rs r → IsRowOf all r)
    → ((k : ℕ) → is_among ns k ≡ true → IsUpTo all i k) → (k : ℕ)
    → is_among (descendants ns rs) k ≡ true → IsUpTo all i k
descend all i [] ns h g k e = g k e
descend all i (r ∷ rs) ns h g k e = descend all i rs (grown ns r (is_among ns r.parent))
    (λ x c. h x (inr c)) (one (is_among ns r.parent) refl) k e
  where
    last : is_among ns r.parent ≡ true → (k : ℕ)
        → (is_among ns k ≡ true) ⊎ (k ≡ r.number) → IsUpTo all i k
    last b k (inl a) = g k a
    last b k (inr a) = child k r (h r (inl refl)) (sym a) (g r.parent b)

    one : (b : Bool) → is_among ns r.parent ≡ b → (k : ℕ) → is_among (grown ns r b) k ≡ true
        → IsUpTo all i k
    one true b k a = last b k (among_split ns r.number k a)
    one false b k a = g k a

-- what is reached was there, or is one of the rows
reached : (least next : ℕ) (rs : List Row) (ns : List ℕ) (k : ℕ) → AscendBelow least next rs
    → k < least → is_among (descendants ns rs) k ≡ true → is_among ns k ≡ true
reached least next [] ns k h l e = e
reached least next (r ∷ rs) ns k h l e =
    let a = h.0 in
    one (is_among ns r.parent) (reached (r.number + 1) next rs
    (grown ns r (is_among ns r.parent)) k h.2 (omega (arith, a, l)) e)
  where
    last : (is_among ns k ≡ true) ⊎ (k ≡ r.number) → is_among ns k ≡ true
    last (inl g) = g
    last (inr g) = let a = h.0 in absurd (omega (arith, a, l, g))

    one : (b : Bool) → is_among (grown ns r b) k ≡ true → is_among ns k ≡ true
    one true g = last (among_split ns r.number k g)
    one false g = g

-- a child of one that is reached is reached
pub closed_below : (least next : ℕ) (rs : List Row) (ns : List ℕ) → AscendBelow least next rs
    → AreInAge rs → (r : Row) → IsRowOf rs r → is_among (descendants ns rs) r.parent ≡ true
    → is_among (descendants ns rs) r.number ≡ true
closed_below least next [] ns h g r c e = absurd c
closed_below least next (x ∷ rs) ns h g r (inr c) e =
    closed_below (x.number + 1) next rs (grown ns x (is_among ns x.parent)) h.2 g.1 r c e
closed_below least next (x ∷ rs) ns h g r (inl i) e = subst
    (λ (y : Row). is_among (descendants ns (x ∷ rs)) y.number ≡ true) i
    (grows rs (grown ns x (is_among ns x.parent)) x.number
    (one (is_among ns x.parent) refl (reached (x.number + 1) next rs
    (grown ns x (is_among ns x.parent)) x.parent h.2 (let a = g.0.0 in omega (arith, a))
    (subst (λ (y : Row). is_among (descendants ns (x ∷ rs)) y.parent ≡ true) (sym i) e))))
  where
    one : (b : Bool) → is_among ns x.parent ≡ b → is_among (grown ns x b) x.parent ≡ true
        → is_among (grown ns x b) x.number ≡ true
    one true b k = among_last ns x.number
    one false b k = absurd (true_false (is_among ns x.parent) k b)
