-- Sums over parts: a repetition is as long as its turns together, and what parts show is kept.
use Rattle.std.proofs.Common.{◌≡◌, ℕ, ◌+◌, ◌≤◌, false, List, [], ◌∷◌, length, map, arith, refl}
use Rattle.std.specs.Prelude.{sum_by}
use Rattle.std.proofs.lemmas.List.Sums.{sum_by-cons, sum_by-append}
use Rattle.text_reader.specs.Grammar.{Language, Grammar, seq, rep, Shape, Tree, t_seq, t_rep_in}
use Rattle.text_reader.specs.Extents.{leaves}
use Rattle.text_reader.specs.Marks.{Marks, can_be_empty, Fits}
use Rattle.text_reader.specs.Shown.{View, Shows, node, nodes, sections, s_none, s_more}
use Rattle.text_reader.specs.Shown.{s_no_section, s_first_section, s_second_section}
use Rattle.text_reader.proofs.Trees.{tree_forward, tree_moves}

module _ {Token V T P : Type 0} (L : Language Token V T P) (s : List Token) (n : ℕ) where
  abbrev Has : Grammar T P → ℕ → ℕ → ℕ → Shape V → Type 0
  Has g d a b t = Tree L s n g d a b t

  module _ {N : Type 0} (layer : N → View V N) where
    -- where each turn is as long as its part of a sum, a repetition is as long as the sum
    pub turns_fit : {A : Type 0} (f : A → ℕ) (part : A → N) (g : Grammar T P)
        → ((x : A) (d a b : ℕ) (t : Shape V) → Shows layer (node (part x)) t → Has g d a b t
        → a + f x ≤ b)
        → (xs : List A) {d a b : ℕ} {t : Shape V} → Shows layer (nodes (map part xs)) t
        → Has (rep g) d a b t → a + sum_by f xs ≤ b
    turns_fit f part g each [] s_none h = omega (arith, tree_forward L s n h)
    turns_fit f part g each (x ∷ xs) (s_more {t = t} y z) (t_rep_in {d} {a} {b} u v) =
        omega (arith, each x d a b t y u, turns_fit f part g each xs z v, sum_by-cons f x xs)

    -- the same of one turn or more
    pub several_fit : {A : Type 0} (f : A → ℕ) (part : A → N) (g : Grammar T P)
        → ((x : A) (d a b : ℕ) (t : Shape V) → Shows layer (node (part x)) t → Has g d a b t
        → a + f x ≤ b)
        → (xs : List A) {d a b : ℕ} {t : Shape V} → Shows layer (nodes (map part xs)) t
        → Has (seq g (rep g)) d a b t → a + sum_by f xs ≤ b
    several_fit f part g each [] s_none h = elim h [ ]
    several_fit f part g each (x ∷ xs) (s_more {t = t} y z) (t_seq {d = d} {a} {b} u v) =
        omega (arith, each x d a b t y u, turns_fit f part g each xs z v, sum_by-cons f x xs)

-- what cannot be empty has a token
pub one_fits : {Token V T P : Type 0} (L : Language Token V T P) (S : Marks T P) → Fits L S
    → (s : List Token) (n : ℕ) (g : Grammar T P) → can_be_empty S g ≡ false
    → (d a b : ℕ) (t : Shape V) → Tree L s n g d a b t → a + 1 ≤ b
one_fits L S fits s n g e d a b t x = omega (arith, tree_moves L s S fits n x e)

-- as many ones as a list has items
pub ones : {A : Type 0} (xs : List A) → sum_by (λ x. 1) xs ≡ length xs
ones [] = refl
ones (x ∷ xs) = let rest : sum_by (λ x. 1) xs ≡ length xs = ones xs in omega
    (arith, sum_by-cons (λ y. 1) x xs)

-- the sum over what a list is made into
pub sum_map : {A N : Type 0} (f : N → ℕ) (part : A → N) (xs : List A)
    → sum_by f (map part xs) ≡ sum_by (λ x. f (part x)) xs
sum_map f part [] = refl
sum_map f part (x ∷ xs) =
    omega (
      arith,
      sum_map f part xs,
      sum_by-cons f (part x) (map part xs),
      sum_by-cons
          (λ y. f (part y)) x xs,
    )

-- Where a part shows at least so many tokens, so do parts one after the other.
module _ {V N : Type 0} (layer : N → View V N) (f : N → ℕ) (each : (n : N) (t : Shape V)
    → Shows layer (node n) t → f n ≤ leaves t) where
  pub parts_show : (ns : List N) (t : Shape V) → Shows layer (nodes ns) t → sum_by f ns ≤ leaves t
  parts_show [] t h = omega arith
  parts_show (n ∷ ns) t (s_more {t = u} {u = v} x y) =
      omega (arith, each n u x, parts_show ns v y, sum_by-cons f n ns)

  -- the first ones of two sorts
  pub sections_show : {ns ms : List N} {t : Shape V} → Shows layer (sections nodes nodes ns ms) t
      → sum_by f ns ≤ leaves t
  sections_show s_no_section = omega arith
  sections_show (s_first_section ks {ns} {t = t} x y) =
      omega (arith, parts_show ks t x, sections_show y, sum_by-append f ks ns)
  sections_show (s_second_section ks x y) = omega (arith, sections_show y)
