-- The ports of interaction points in a list.
use Rattle.std.proofs.Common.{◌≡◌, ℕ, zero, suc, ◌+◌, ◌-◌, ◌<◌, ◌≤◌, ◌^◌, ℤ, List, [], ◌∷◌}
use Rattle.std.proofs.Common.{◌++◌, map, take, length, refl, sym, ap, ◌∙◌, subst, Some}
use Rattle.std.proofs.Common.{None, slice_get, arith, inl, inr, length-append}
use Rattle.std.specs.Prelude.{flat_map, ◌⊎◌}
use Rattle.std.proofs.lemmas.Bool.{cases_lt}
use Rattle.std.proofs.lemmas.List.{length-map}
use Rattle.std.proofs.lemmas.Option.{same_Some}
use Rattle.rule_ports.specs.declared.table.Elements.{Elements}
use Rattle.rule_declares.specs.OrdinalValues.{tuples_of}
use Rattle.rule_declares.specs.PortList.{element}
use Rattle.rule_ports.specs.PortTable.{Points, ports_at, listed, AreTotals, IsTable}
use Rattle.rule_ports.specs.PortTable.{IsSplit}

abbrev Point : Type 0
Point = List ℕ × Elements

-- what stands in a list
pub there : {A : Type 0} (xs : List A) (i : ℕ) → i < length xs
    → (x : A) × (slice_get xs i ≡ Some x)
there [] i l = absurd (omega (arith, l))
there (x ∷ xs) zero l = (x, refl)
there (x ∷ xs) (suc i) l = there xs i (omega (arith, l))

pub within : {A : Type 0} (xs : List A) (i : ℕ) (x : A) → slice_get xs i ≡ Some x
    → i < length xs
within [] i x e = cc
within (y ∷ ys) zero x e = omega arith
within (y ∷ ys) (suc i) x e = let l = within ys i x e in omega (arith, l)

pub past : {A : Type 0} (xs : List A) (i : ℕ) → length xs ≤ i → slice_get xs i ≡ None
past [] i l = refl
past (x ∷ xs) zero l = absurd (omega (arith, l))
past (x ∷ xs) (suc i) l = past xs i (omega (arith, l))

pub mapped : {A B : Type 0} (f : A → B) (xs : List A) (i : ℕ) (x : A) → slice_get xs i ≡ Some x
    → slice_get (map f xs) i ≡ Some (f x)
mapped f [] i x e = cc
mapped f (y ∷ ys) zero x e = ap (λ z. Some (f z)) (same_Some y x e)
mapped f (y ∷ ys) (suc i) x e = mapped f ys i x e

pub in_second : {A : Type 0} (xs ys : List A) (i : ℕ)
    → slice_get (xs ++ ys) (length xs + i) ≡ slice_get ys i
in_second [] ys i = ap (slice_get ys) (omega arith)
in_second (x ∷ xs) ys i =
    let e : length (x ∷ xs) + i ≡ suc (length xs + i) = omega arith in
    ap (slice_get (x ∷ (xs ++ ys))) e ∙ in_second xs ys i

pub in_first : {A : Type 0} (xs ys : List A) (i : ℕ) → i < length xs
    → slice_get (xs ++ ys) i ≡ slice_get xs i
in_first [] ys i l = absurd (omega (arith, l))
in_first (x ∷ xs) ys zero l = refl
in_first (x ∷ xs) ys (suc i) l = in_first xs ys i (omega (arith, l))

-- lists that are made of the items of another, one after the other
module _ {X A : Type 0} (f : X → List A) where
  -- how many items stand before those of this number
  abbrev pub ahead : ℕ → List X → ℕ
  ahead g xs = length (flat_map f (take g xs))

  pub ahead_suc : (xs : List X) (g : ℕ) (x : X) → slice_get xs g ≡ Some x
      → ahead (suc g) xs ≡ ahead g xs + length (f x)
  ahead_suc [] g x e = cc
  ahead_suc (y ∷ ys) zero x e =
      let l : length (f y) ≡ length (f x) = ap (λ z. length (f z)) (same_Some y x e) in
      length-append (f y) [] ∙ omega (arith, l)
  ahead_suc (y ∷ ys) (suc g) x e =
      let r = ahead_suc ys g x e in
      let a = length-append (f y) (flat_map f (take (suc g) ys)) in
      let b = length-append (f y) (flat_map f (take g ys)) in
      omega (arith, r, a, b)

  pub ahead_more : (xs : List X) (g h : ℕ) → g ≤ h → ahead g xs ≤ ahead h xs
  ahead_more [] zero h l = omega arith
  ahead_more [] (suc g) zero l = absurd (omega (arith, l))
  ahead_more [] (suc g) (suc h) l = omega arith
  ahead_more (x ∷ xs) zero h l = omega arith
  ahead_more (x ∷ xs) (suc g) zero l = absurd (omega (arith, l))
  ahead_more (x ∷ xs) (suc g) (suc h) l =
      let r = ahead_more xs g h (omega (arith, l)) in
      let a = length-append (f x) (flat_map f (take g xs)) in
      let b = length-append (f x) (flat_map f (take h xs)) in
      omega (arith, r, a, b)

  pub ahead_all : (xs : List X) (g : ℕ) → length xs ≤ g → ahead g xs ≡ length (flat_map f xs)
  ahead_all [] zero l = refl
  ahead_all [] (suc g) l = refl
  ahead_all (x ∷ xs) zero l = absurd (omega (arith, l))
  ahead_all (x ∷ xs) (suc g) l =
      let r = ahead_all xs g (omega (arith, l)) in
      let a = length-append (f x) (flat_map f (take g xs)) in
      let b = length-append (f x) (flat_map f xs) in
      omega (arith, r, a, b)

  pub flat_get : (xs : List X) (g : ℕ) (x : X) (r : ℕ) → slice_get xs g ≡ Some x
      → r < length (f x) → slice_get (flat_map f xs) (ahead g xs + r) ≡ slice_get (f x) r
  flat_get [] g x r e l = cc
  flat_get (y ∷ ys) zero x r e l =
      let same : y ≡ x = same_Some y x e in
      let z : 0 + r ≡ r = omega arith in
      let k : r < length (f y) = subst (λ v. r < length (f v)) (sym same) l in
      ap (slice_get (f y ++ flat_map f ys)) z ∙ in_first (f y) (flat_map f ys) r k
      ∙ ap (λ v. slice_get (f v) r) same
  flat_get (y ∷ ys) (suc g) x r e l =
      let a = length-append (f y) (flat_map f (take g ys)) in
      let s : ahead (suc g) (y ∷ ys) + r ≡ length (f y) + (ahead g ys + r) = omega (arith, a) in
      ap (slice_get (f y ++ flat_map f ys)) s ∙ in_second (f y) (flat_map f ys) (ahead g ys + r)
      ∙ flat_get ys g x r e l

  -- which item stands where
  abbrev pub IsFrom : List X → ℕ → A → Type 0
  IsFrom xs n a = (g : ℕ) × ((x : X) × ((r : ℕ) × (slice_get xs g ≡ Some x)
      × (slice_get (f x) r ≡ Some a) × (ahead g xs + r ≡ n)))

  from_rest : (x : X) (xs : List X) (n m : ℕ) (a : A) → length (f x) + m ≡ n → IsFrom xs m a
      → IsFrom (x ∷ xs) n a
  from_rest x xs n m a l p =
      let b = length-append (f x) (flat_map f (take p.0 xs)) in
      (suc p.0, (p.1.0, (p.1.1.0, p.1.1.1, p.1.1.2, omega (arith, b, l, p.1.1.3))))

  pub flat_place : (xs : List X) (n : ℕ) (a : A) → slice_get (flat_map f xs) n ≡ Some a
      → IsFrom xs n a
  flat_place [] n a e = cc
  flat_place (x ∷ xs) n a e = by (cases_lt n (length (f x))) (λ m. flat_place xs m a)
    where
      by : (n < length (f x)) ⊎ (length (f x) ≤ n)
          → ((m : ℕ) → slice_get (flat_map f xs) m ≡ Some a → IsFrom xs m a)
          → IsFrom (x ∷ xs) n a
      by (inl l) rest =
          (0, (x, (n, refl, sym (in_first (f x) (flat_map f xs) n l) ∙ e, omega arith)))
      by (inr l) rest =
          let m = n - length (f x) in
          let k : length (f x) + m ≡ n = omega (arith, l) in
          from_rest x xs n m a k (rest m (sym (in_second (f x) (flat_map f xs) m)
          ∙ ap (slice_get (f x ++ flat_map f xs)) k ∙ e))

-- where the port of a number stands
pub totals_more : (ps : Points) → AreTotals ps → (g h : ℕ) (p q : Point)
    → slice_get ps g ≡ Some p → slice_get ps h ≡ Some q → g ≤ h → p.1.until ≤ q.1.until
totals_more ps t g h p q e f l =
    let a = ahead_more ports_at ps (suc g) (suc h) (omega (arith, l)) in
    let b = t g p e in
    let c = t h q f in
    omega (arith, a, b, c)

-- what is known of the port with a number, where so many interaction points stand before it
pub record IsPlaced (ps : Points) (g n : ℕ) : Type 0 where
  pub found : (p : Point) → slice_get ps g ≡ Some p
      → (t : List ℤ) × (slice_get (listed ps) n ≡ Some (element p.0 p.1.kinds p.1.signals t))
  pub not_found : slice_get ps g ≡ None → slice_get (listed ps) n ≡ None

ahead_of : (ps : Points) (n g : ℕ) → IsTable ps → IsSplit ps n g g → n < 2 ^ 32
    → ahead ports_at g ps ≤ n
ahead_of ps n zero t s l = omega arith
ahead_of ps n (suc g) t s l =
    let k = there ps g (omega (arith, s.within)) in
    let a = s.below g k.0 (omega arith) k.1 in
    let b = t.totals g k.0 k.1 in
    omega (arith, a, b, l)

pub placed : (ps : Points) (n g : ℕ) → IsTable ps → IsSplit ps n g g → n < 2 ^ 32
    → IsPlaced ps g n
placed ps n g t s l = record {
  found = found;
  not_found = not_found;
}
  where
    before : ahead ports_at g ps ≤ n
    before = ahead_of ps n g t s l

    found : (p : Point) → slice_get ps g ≡ Some p
        → (t : List ℤ) × (slice_get (listed ps) n ≡ Some (element p.0 p.1.kinds p.1.signals t))
    found p e =
        let a = s.above g p (omega arith) e in
        let b = t.totals g p e in
        let c = ahead_suc ports_at ps g p e in
        let r = n - ahead ports_at g ps in
        let m : r < length (ports_at p) = omega (arith, a, b, c, before, l) in
        let k = length-map (tuples_of p.1.kinds) (element p.0 p.1.kinds p.1.signals) in
        let x = there (tuples_of p.1.kinds) r (omega (arith, m, k)) in
        let z : ahead ports_at g ps + r ≡ n = omega (arith, before) in (
          x.0,
          ap (slice_get (listed ps)) (sym z) ∙ flat_get ports_at ps g p r e m
              ∙ mapped (element p.0 p.1.kinds p.1.signals) (tuples_of p.1.kinds) r x.0 x.1,
        )

    not_found : slice_get ps g ≡ None → slice_get (listed ps) n ≡ None
    not_found e = by (cases_lt g (length ps))
      where
        by : (g < length ps) ⊎ (length ps ≤ g) → slice_get (listed ps) n ≡ None
        by (inl k) = let x = there ps g k in cc
        by (inr k) =
            let a = ahead_all ports_at ps g k in
            past (listed ps) n (omega (arith, a, before))
