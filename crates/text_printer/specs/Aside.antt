-- Views and shapes that agree in all but their places.
use Rattle.std.specs.Prelude.{ℕ, List, [], ◌∷◌}
use Rattle.text_reader.specs.Grammar.{Shape, nothing, leaf, placed, both, left, right, some}
use Rattle.text_reader.specs.Shown.{View, empty, kept, at, pair, first, second, given, node, nodes}

module _ {V N : Type 0} (layer : N → View V N) where
  -- A view shows a shape, places aside. It has no sections.
  pub data Tells : View V N → Shape V → Type 0 where
    a_empty : Tells empty nothing
    a_kept : (v : V) → Tells (kept v) (leaf v)
    a_at : {w : View V N} {t : Shape V} (p q : ℕ) → Tells w t → Tells (at p w) (placed q t)
    a_pair : {w x : View V N} {t u : Shape V} → Tells w t → Tells x u → Tells (pair w x) (both t u)
    a_first : {w : View V N} {t : Shape V} → Tells w t → Tells (first w) (left t)
    a_second : {w : View V N} {t : Shape V} → Tells w t → Tells (second w) (right t)
    a_given : {w : View V N} {t : Shape V} → Tells w t → Tells (given w) (some t)
    a_node : {n : N} {t : Shape V} → Tells (layer n) t → Tells (node n) t
    a_none : Tells (nodes []) nothing
    a_more : {n : N} {ns : List N} {t u : Shape V} → Tells (node n) t → Tells (nodes ns) u
        → Tells (nodes (n ∷ ns)) (both t u)

  -- Two views are the same, places aside, and so are the parts that they name.
  pub data Alike : View V N → View V N → Type 0 where
    b_empty : Alike empty empty
    b_kept : (v : V) → Alike (kept v) (kept v)
    b_at : {w x : View V N} (p q : ℕ) → Alike w x → Alike (at p w) (at q x)
    b_pair : {w x y z : View V N} → Alike w y → Alike x z → Alike (pair w x) (pair y z)
    b_first : {w x : View V N} → Alike w x → Alike (first w) (first x)
    b_second : {w x : View V N} → Alike w x → Alike (second w) (second x)
    b_given : {w x : View V N} → Alike w x → Alike (given w) (given x)
    b_node : {n m : N} → Alike (layer n) (layer m) → Alike (node n) (node m)
    b_none : Alike (nodes []) (nodes [])
    b_more : {n m : N} {ns ms : List N} → Alike (node n) (node m) → Alike (nodes ns) (nodes ms)
        → Alike (nodes (n ∷ ns)) (nodes (m ∷ ms))
