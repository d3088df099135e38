-- Climbs pass ever older instances, and descents ever younger ones.
use Rattle.std.proofs.Common.{◌≡◌, refl, sym, ap, subst, ◌∙◌, arith, ℕ, zero, suc, ◌+◌, ◌<◌, ◌≤◌}
use Rattle.std.proofs.Common.{nat_lt, Bool, true, false, List, [], ◌∷◌, Option, Some, None}
use Rattle.std.proofs.Common.{length, inl, inr, nat_eq, is_some}
use Rattle.std.specs.Prelude.{ℤ, if◌then◌else◌, find, map, option_and_then, unwrap_or}
use Rattle.std.specs.List.{flat_map, AllByRecursion}
use Rattle.std.specs.Option.{option_map, option_map_or}
use Rattle.std.proofs.lemmas.Bool.{eqb-true}
use Rattle.std.proofs.lemmas.Bool.Decides.{nat_tests}
use Rattle.std.proofs.lemmas.Option.{same_Some}
use Rattle.rule_scope.specs.declared.declaration.Sort.TheVariants as sort
use Rattle.rule_scope.specs.Outline.{Outline}
use Rattle.mean_blocks.specs.declared.situation.InteractionPoint.{InteractionPoint}
use Rattle.mean_blocks.specs.declared.situation.Row.{Row}
use Rattle.mean_blocks.specs.TextByPlace.{Text}
use Rattle.mean_blocks.specs.GlobalSituation.{Situation, is_numbered}
use Rattle.mean_blocks.specs.NamesInRuns.{header_at, places_of}
use Rattle.mean_blocks.specs.InstancePoints.{external_of, points_of, point, indices_of}
use Rattle.mean_blocks.specs.Attachments.{above, follow, leads_to}
use Rattle.law_runs.specs.AncestorLaws.{IsRowOf, AreInAge, IsBetween}
use Rattle.law_runs.specs.OrderLaws.{IsLiving}
use Rattle.law_runs.specs.ClimbLaws.{ClimbsEnd, DescentsEnd}
use Rattle.law_runs.proofs.ParentsOlder.{joined_all}
use Rattle.law_runs.proofs.RowLaws.{living_row}

none_some : {A : Type 0} (a : A) → None ≡ Some a → ⊥
none_some a h = cc

true_false : (b : Bool) → b ≡ true → b ≡ false → ⊥
true_false b h k = cc

-- HOW MANY

abbrev one_if : Bool → ℕ
one_if true = 1
one_if false = 0

-- how many rows pass a test
abbrev size : (Row → Bool) → List Row → ℕ
size f [] = 0
size f (r ∷ rs) = one_if (f r) + size f rs

module _ (f g : Row → Bool) (h : (r : Row) → f r ≡ true → g r ≡ true) where
  one_more : (r : Row) → one_if (f r) ≤ one_if (g r)
  one_more r = one (f r) refl (g r) refl
    where
      one : (b : Bool) → f r ≡ b → (c : Bool) → g r ≡ c → one_if b ≤ one_if c
      one true e true k = omega arith
      one true e false k = absurd (true_false (g r) (h r e) k)
      one false e c k = omega arith

  size_more : (rs : List Row) → size f rs ≤ size g rs
  size_more [] = omega arith
  size_more (r ∷ rs) = omega (arith, one_more r, size_more rs)

  size_less : (rs : List Row) (r : Row) → IsRowOf rs r → f r ≡ false → g r ≡ true
      → size f rs < size g rs
  size_less [] r c e k = absurd c
  size_less (x ∷ rs) r (inl i) e k =
      let a = ap one_if (ap f i ∙ e) in
      let b = ap one_if (ap g i ∙ k) in omega (arith, size_more rs, a, b)
  size_less (x ∷ rs) r (inr c) e k =
      omega (arith, one_more x, size_less rs r c e k)

size_all : (f : Row → Bool) (rs : List Row) → size f rs ≤ length rs
size_all f [] = omega arith
size_all f (r ∷ rs) = one (f r) (size_all f rs)
  where
    one : (b : Bool) → size f rs ≤ length rs → one_if b + size f rs ≤ suc (length rs)
    one true h = omega (arith, h)
    one false h = omega (arith, h)

-- STEPS

-- where each step makes a measure smaller, so many steps come to the end
follow_ends : (next : InteractionPoint → Option InteractionPoint) (m : InteractionPoint → ℕ)
    → ((p e : InteractionPoint) → next p ≡ Some e → m e < m p) → (k : ℕ) (p : InteractionPoint)
    → m p ≤ k → next (follow next k p) ≡ None
follow_ends next m h zero p l = one (next p) refl
  where
    one : (o : Option InteractionPoint) → next p ≡ o → next p ≡ None
    one None e = e
    one (Some q) e = let a = h p q e in absurd (omega (arith, a, l))
follow_ends next m h (suc k) p l = one (next p) refl (follow_ends next m h k)
  where
    one : (o : Option InteractionPoint) → next p ≡ o
        → ((q : InteractionPoint) → m q ≤ k → next (follow next k q) ≡ None)
        → next (option_map_or (follow next k) o p) ≡ None
    one None e f = e
    one (Some q) e f = let a = h p q e in f q (omega (arith, a, l))

less : (a b : ℕ) → a < b → nat_lt a b ≡ true
less a b h = grind (arith, nat_tests, h)

not_less : (a : ℕ) → nat_lt a a ≡ false
not_less a = grind (arith, nat_tests)

less_after : (a b c : ℕ) → b < c → nat_lt a b ≡ true → nat_lt a c ≡ true
less_after a b c h k = grind (arith, nat_tests, h, k)

-- UP

-- what is found is one of all
found_one : {A : Type 0} (Q : A → Type 0) (test : A → Bool) (xs : List A) (x : A)
    → AllByRecursion Q xs → find test xs ≡ Some x → Q x
found_one Q test [] x h e = absurd (none_some x e)
found_one Q test (y ∷ xs) x h e = one (test y) (found_one Q test xs x h.1) e
  where
    one : (b : Bool) → (find test xs ≡ Some x → Q x)
        → (if b then Some y else find test xs) ≡ Some x → Q x
    one true f e = subst Q (same_Some y x e) h.0
    one false f e = f e

point_all : (Q : InteractionPoint → Type 0) (n p : ℕ)
    → ((zs : List ℤ) → Q (point n p zs)) → (zss : List (List ℤ))
    → AllByRecursion Q (map (point n p) zss)
point_all Q n p h [] = tt
point_all Q n p h (zs ∷ zss) = (h zs, point_all Q n p h zss)

points_all : (o : Outline) (Q : InteractionPoint → Type 0) (n : ℕ)
    → ((p : ℕ) (zs : List ℤ) → Q (point n p zs)) → (ps : List ℕ)
    → AllByRecursion Q (flat_map (λ p. map (point n p) (indices_of o p)) ps)
points_all o Q n h [] = tt
points_all o Q n h (p ∷ ps) = joined_all Q (map (point n p) (indices_of o p))
    (flat_map (λ p. map (point n p) (indices_of o p)) ps)
    (point_all Q n p (h p) (indices_of o p)) (points_all o Q n h ps)

-- an external point is one of a living instance
abbrev OfLiving : Situation → ℕ → InteractionPoint → Type 0
OfLiving s n e = (e.instance ≡ n) × IsLiving s.rows n

external_all : (o : Outline) (s : Situation) (n : ℕ)
    → AllByRecursion (OfLiving s n) (external_of o s n)
external_all o s n = one (find (is_numbered n) s.rows) refl
  where
    has : (r : Row) → find (is_numbered n) s.rows ≡ Some r → (x : Option ℕ)
        → AllByRecursion (OfLiving s n) (unwrap_or (option_map (points_of o n) x) [])
    has r e None = tt
    has r e (Some x) = points_all o (OfLiving s n) n
        (λ p zs. (refl, ap is_some e)) (places_of o sort.Point x)

    one : (y : Option Row) → find (is_numbered n) s.rows ≡ y
        → AllByRecursion (OfLiving s n) (unwrap_or (option_map (points_of o n)
        (option_and_then (λ (r : Row). header_at o r.body) y)) [])
    one None e = tt
    one (Some r) e = has r e (header_at o r.body)

-- the row of an instance, by its number
row_found : (rs : List Row) (n : ℕ) (r : Row) → AreInAge rs → find (is_numbered n) rs ≡ Some r
    → IsBetween r × (r.number ≡ n)
row_found [] n r h e = absurd (none_some r e)
row_found (x ∷ rs) n r h e = one (nat_eq n x.number) refl (row_found rs n r h.1) e
  where
    one : (b : Bool) → nat_eq n x.number ≡ b
        → (find (is_numbered n) rs ≡ Some r → IsBetween r × (r.number ≡ n))
        → (if b then Some x else find (is_numbered n) rs) ≡ Some r
        → IsBetween r × (r.number ≡ n)
    one true k f e = subst (λ (y : Row). IsBetween y × (y.number ≡ n)) (same_Some x r e)
        (h.0, sym (eqb-true n x.number k))
    one false k f e = f e

-- what is above is of an older instance that lives
above_older : (t : Text) (s : Situation) (p e : InteractionPoint) → AreInAge s.rows
    → above t s p ≡ Some e → (e.instance < p.instance) × IsLiving s.rows e.instance
above_older t s p e h k = one (find (is_numbered p.instance) s.rows) refl k
  where
    one : (y : Option Row) → find (is_numbered p.instance) s.rows ≡ y
        → option_and_then (λ (n : ℕ). find (λ e. leads_to p (s.down e)) (external_of t.outline s n))
        (option_map (λ (r : Row). r.parent) y) ≡ Some e
        → (e.instance < p.instance) × IsLiving s.rows e.instance
    one None i k = absurd (none_some e k)
    one (Some r) i k =
        let a = found_one (OfLiving s r.parent) (λ e. leads_to p (s.down e))
        (external_of t.outline s r.parent) e (external_all t.outline s r.parent) k in
        let b = row_found s.rows p.instance r h i in
        let c = a.0 in
        let d = b.0.0 in
        let f = b.1 in
        (omega (arith, c, d, f), subst (IsLiving s.rows) (sym a.0) a.1)

abbrev older_than : InteractionPoint → Row → Bool
older_than p r = nat_lt r.number p.instance

older_size : (s : Situation) (p e : InteractionPoint) → e.instance < p.instance
    → IsLiving s.rows e.instance → size (older_than e) s.rows < size (older_than p) s.rows
older_size s p e h l = let a = living_row s.rows e.instance l in
    size_less (older_than e) (older_than p)
    (λ r k. less_after r.number e.instance p.instance h k) s.rows a.row a.found
    (subst (λ n. nat_lt n e.instance ≡ false) (sym a.number) (not_less e.instance))
    (subst (λ n. nat_lt n p.instance ≡ true) (sym a.number) (less e.instance p.instance h))

pub climbs_end : ClimbsEnd
climbs_end t s p h = follow_ends (above t s) (λ p. size (older_than p) s.rows)
    (λ p e k. let a = above_older t s p e h k in older_size s p e a.0 a.1) (length s.rows) p
    (size_all (older_than p) s.rows)

-- DOWN

abbrev younger_than : InteractionPoint → Row → Bool
younger_than p r = nat_lt p.instance r.number

less_before : (a b c : ℕ) → a < b → nat_lt b c ≡ true → nat_lt a c ≡ true
less_before a b c h k = grind (arith, nat_tests, h, k)

younger_size : (s : Situation) (p e : InteractionPoint) → p.instance < e.instance
    → IsLiving s.rows e.instance → size (younger_than e) s.rows < size (younger_than p) s.rows
younger_size s p e h l = let a = living_row s.rows e.instance l in
    size_less (younger_than e) (younger_than p)
    (λ r k. less_before p.instance e.instance r.number h k) s.rows a.row a.found
    (subst (λ n. nat_lt e.instance n ≡ false) (sym a.number) (not_less e.instance))
    (subst (λ n. nat_lt p.instance n ≡ true) (sym a.number) (less p.instance e.instance h))

pub descents_end : DescentsEnd
descents_end s p h g = follow_ends s.down (λ p. size (younger_than p) s.rows)
    (λ p e k. younger_size s p e (g p e k) (h p e k).1) (length s.rows) p
    (size_all (younger_than p) s.rows)
