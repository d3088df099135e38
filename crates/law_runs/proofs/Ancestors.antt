-- Who is above an instance is its ancestor, and who is below goes with it.
use Rattle.std.specs.Prelude.{if◌then◌else◌, find, not, ◌⊎◌}
use Rattle.std.specs.List.{filter}
use Rattle.std.proofs.Common.{◌≡◌, refl, sym, ap, subst, ◌∙◌, arith, ℕ, ◌+◌, nat_eq}
use Rattle.std.proofs.Common.{Bool, true, false, ◌&&◌, ◌||◌, List, [], ◌∷◌, Some, is_some}
use Rattle.std.proofs.Common.{inl, inr}
use Rattle.std.proofs.lemmas.Bool.{eqb-true}
use Rattle.std.proofs.lemmas.Option.{same_Some}
use Rattle.mean_blocks.specs.declared.situation.Row.{Row}
use Rattle.mean_blocks.specs.TextByPlace.{Text}
use Rattle.mean_blocks.specs.GlobalSituation.{Situation, is_numbered, lives}
use Rattle.mean_blocks.specs.InstancePoints.{external_of}
use Rattle.mean_blocks.specs.LinkEffects.{each}
use Rattle.mean_blocks.specs.InstanceEffects.{is_among, descendants, untied, released}
use Rattle.mean_blocks.specs.KeepingLaws.{AreNumbered, AscendBelow}
use Rattle.mean_blocks.proofs.MutualPeers.{eq_self}
use Rattle.est_meaning.specs.TransitionSelection.{IsAncestor, parent, beyond}
use Rattle.law_runs.specs.AncestorLaws.{IsRowOf, AreInAge, AncestorsAreOlder, NoneIsItsAncestor}
use Rattle.law_runs.specs.AncestorLaws.{GoesWith, ThoseWhoGoDescend, DescendantsGo}
use Rattle.law_runs.specs.AncestorLaws.{ReleaseEndsDescendants}
use Rattle.law_runs.proofs.SameRows.{each_rows}
use Rattle.law_runs.proofs.RowLaws.{IsUpTo, here, child, of_rows, within_numbers, grows}
use Rattle.law_runs.proofs.RowLaws.{true_false, among_self, descend, closed_below}

-- ROWS BY THEIR NUMBERS

-- the row that is found for a number has it
row_found : (rs : List Row) (n : ℕ) (r : Row) → find (is_numbered n) rs ≡ Some r
    → IsRowOf rs r × (r.number ≡ n)
row_found [] n r h = absurd (cc)
row_found (x ∷ xs) n r h = one (nat_eq n x.number) refl h (row_found xs n r)
  where
    one : (b : Bool) → nat_eq n x.number ≡ b
        → (if b then Some x else find (is_numbered n) xs) ≡ Some r
        → (find (is_numbered n) xs ≡ Some r → IsRowOf xs r × (r.number ≡ n))
        → IsRowOf (x ∷ xs) r × (r.number ≡ n)
    one true e g k = let i : x ≡ r = same_Some x r g in
        (inl i, ap (λ (y : Row). y.number) (sym i) ∙ sym (eqb-true n x.number e))
    one false e g k = let a = k g in (inr a.0, a.1)

-- where numbers ascend, a row is found for its number
found_row : (least next : ℕ) (rs : List Row) (r : Row) → AscendBelow least next rs
    → IsRowOf rs r → find (is_numbered r.number) rs ≡ Some r
found_row least next [] r h c = absurd c
found_row least next (x ∷ xs) r h (inl i) = subst
    (λ (y : Row). (if nat_eq y.number x.number then Some x
    else find (is_numbered y.number) xs) ≡ Some y) i
    (ap (λ (b : Bool). if b then Some x else find (is_numbered x.number) xs) (eq_self x.number))
found_row least next (x ∷ xs) r h (inr c) =
    one (nat_eq r.number x.number) refl (found_row (x.number + 1) next xs r h.2 c)
  where
    one : (b : Bool) → nat_eq r.number x.number ≡ b → find (is_numbered r.number) xs ≡ Some r
        → (if b then Some x else find (is_numbered r.number) xs) ≡ Some r
    one true e k = let a = (within_numbers (x.number + 1) next xs r h.2 c).0 in
        let f = eqb-true r.number x.number e in absurd (omega (arith, a, f))
    one false e k = k

-- ANCESTORS

-- who is above another by a climb is that one, or its ancestor
pub up_ancestor : (s : Situation) (a : ℕ) → AreNumbered s → (n : ℕ) → IsUpTo s.rows a n
    → (n ≡ a) ⊎ IsAncestor s a n
up_ancestor s a h n (here m e) = inl (sym e)
up_ancestor s a h n (child m r c e k) = inr (one (up_ancestor s a h r.parent k))
  where
    found : find (is_numbered m) s.rows ≡ Some r
    found = subst (λ i. find (is_numbered i) s.rows ≡ Some r) e
        (found_row 1 s.next s.rows r h.1 c)

    one : (r.parent ≡ a) ⊎ IsAncestor s a r.parent → IsAncestor s a m
    one (inl z) = parent m r found z
    one (inr g) = beyond m r found g

pub ancestors_older : AncestorsAreOlder
ancestors_older s n m h (parent i r e z) =
    let a = row_found s.rows i r e in
    let d = (of_rows s.rows r h a.0).0 in let f = a.1 in omega (arith, d, f, z)
ancestors_older s n m h (beyond i r e k) =
    let a = row_found s.rows i r e in
    let d = (of_rows s.rows r h a.0).0 in let f = a.1 in
    let g = ancestors_older s n r.parent h k in omega (arith, d, f, g)

pub none_its_ancestor : NoneIsItsAncestor
none_its_ancestor s n h a = let g = ancestors_older s n n h a in absurd (omega (arith, g))

-- RELEASE

pub who_goes_descends : ThoseWhoGoDescend
who_goes_descends s n m h e = up_ancestor s n h m
    (descend s.rows n s.rows (n ∷ []) (λ r c. c) (λ j a. here j (sym (among_self n j a))) m e)

goes_itself : (s : Situation) (n : ℕ) → GoesWith s n n
goes_itself s n = grows s.rows (n ∷ []) n (ap (λ (b : Bool). b || false) (eq_self n))

goes_below : (s : Situation) (n m : ℕ) → AreNumbered s → AreInAge s.rows → IsAncestor s n m
    → GoesWith s n m
goes_below s n m h g (parent i r e z) =
    let a = row_found s.rows i r e in
    subst (GoesWith s n) a.1 (closed_below 1 s.next s.rows (n ∷ []) h.1 g r a.0
    (subst (GoesWith s n) (sym z) (goes_itself s n)))
goes_below s n m h g (beyond i r e k) =
    let a = row_found s.rows i r e in
    subst (GoesWith s n) a.1 (closed_below 1 s.next s.rows (n ∷ []) h.1 g r a.0
    (goes_below s n r.parent h g k))

pub descendants_go : DescendantsGo
descendants_go = record { itself = goes_itself; below = goes_below }

-- who lives of those that are kept by their numbers
kept_live : (test : ℕ → Bool) (rs : List Row) (m : ℕ)
    → is_some (find (is_numbered m) (filter (λ (r : Row). test r.number) rs))
    ≡ (test m && is_some (find (is_numbered m) rs))
kept_live test [] m = one (test m)
  where
    one : (b : Bool) → false ≡ (b && false)
    one true = refl
    one false = refl
kept_live test (x ∷ xs) m = by (filter (λ (r : Row). test r.number) xs)
    (nat_eq m x.number) (test x.number) (test m) refl refl refl (kept_live test xs m)
  where
    by : (rest : List Row) (b c d : Bool) → nat_eq m x.number ≡ b → test x.number ≡ c
        → test m ≡ d
        → is_some (find (is_numbered m) rest) ≡ (d && is_some (find (is_numbered m) xs))
        → is_some (find (is_numbered m) (if c then x ∷ rest else rest))
        ≡ (d && is_some (if b then Some x else find (is_numbered m) xs))
    by rest true true true e f g h =
        ap (λ (b : Bool). is_some (if b then Some x else find (is_numbered m) rest)) e
    by rest true false false e f g h = h
    by rest true true false e f g h =
        absurd (true_false (test m) (ap test (eqb-true m x.number e) ∙ f) g)
    by rest true false true e f g h =
        absurd (true_false (test m) g (ap test (eqb-true m x.number e) ∙ f))
    by rest false true d e f g h =
        ap (λ (b : Bool). is_some (if b then Some x else find (is_numbered m) rest)) e ∙ h
    by rest false false d e f g h = h

-- who lives after a release
lives_after : (t : Text) (s : Situation) (n m : ℕ)
    → lives (released t n s) m ≡ (not (is_among (descendants (n ∷ []) s.rows) m) && lives s m)
lives_after t s n m =
    let u = each (untied t) (external_of t.outline s n) s in
    kept_live (λ k. not (is_among (descendants (n ∷ []) u.rows) k)) u.rows m
    ∙ ap (λ (rs : List Row). not (is_among (descendants (n ∷ []) rs) m)
    && is_some (find (is_numbered m) rs)) (each_rows t (external_of t.outline s n) s).rows

pub release_ends_descendants : ReleaseEndsDescendants
release_ends_descendants = record { ended = ended; left = left }
  where
    goes : (s : Situation) (n m : ℕ) → AreNumbered s → AreInAge s.rows
        → (m ≡ n) ⊎ IsAncestor s n m → GoesWith s n m
    goes s n m h g (inl e) = subst (GoesWith s n) (sym e) (goes_itself s n)
    goes s n m h g (inr a) = goes_below s n m h g a

    either : (b : Bool) → (b ≡ true → ⊥) → b ≡ false
    either true f = absurd (f refl)
    either false f = refl

    ended : (t : Text) (s : Situation) (n m : ℕ) → AreNumbered s → AreInAge s.rows
        → (m ≡ n) ⊎ IsAncestor s n m → lives (released t n s) m ≡ false
    ended t s n m h g a = lives_after t s n m
        ∙ ap (λ (b : Bool). not b && lives s m) (goes s n m h g a)

    left : (t : Text) (s : Situation) (n m : ℕ) → AreNumbered s
        → ((m ≡ n) ⊎ IsAncestor s n m → ⊥) → lives (released t n s) m ≡ lives s m
    left t s n m h f = lives_after t s n m
        ∙ ap (λ (b : Bool). not b && lives s m)
        (either (is_among (descendants (n ∷ []) s.rows) m)
        (λ e. f (who_goes_descends s n m h e)))
