-- What a value shows stands in order between two places of a text.
use Rattle.std.specs.Prelude.{ℕ, ◌≤◌, ◌<◌, List, [], ◌∷◌, ◌++◌}
use Rattle.text_reader.specs.Shown.{View, empty, kept, at, pair, first, second, given, node, nodes}
use Rattle.text_reader.specs.Shown.{sections}

module _ {V N : Type 0} (layer : N → View V N) where
  -- A view stands between two places, the second of which is behind it: what it keeps of a token
  -- takes a place, and each part stands after the one before it.
  pub data Stands : View V N → ℕ → ℕ → Type 0 where
    o_empty : {a b : ℕ} → a ≤ b → Stands empty a b
    o_kept : {v : V} {a b : ℕ} → a < b → Stands (kept v) a b
    o_at : {p a b : ℕ} {w : View V N} → a ≤ p → Stands w p b → Stands (at p w) a b
    o_pair : {w x : View V N} {a k b : ℕ} → Stands w a k → Stands x k b → Stands (pair w x) a b
    o_first : {w : View V N} {a b : ℕ} → Stands w a b → Stands (first w) a b
    o_second : {w : View V N} {a b : ℕ} → Stands w a b → Stands (second w) a b
    o_given : {w : View V N} {a b : ℕ} → Stands w a b → Stands (given w) a b
    o_node : {n : N} {a b : ℕ} → Stands (layer n) a b → Stands (node n) a b
    o_none : {a b : ℕ} → a ≤ b → Stands (nodes []) a b
    o_more : {n : N} {ns : List N} {a k b : ℕ} → Stands (node n) a k → Stands (nodes ns) k b
        → Stands (nodes (n ∷ ns)) a b
    o_no_section : {f g : List N → View V N} {a b : ℕ} → a ≤ b → Stands (sections f g [] []) a b
    o_first_section : {f g : List N → View V N} {a k b : ℕ} (ks : List N) {ns ms : List N}
        → Stands (f ks) a k → Stands (sections f g ns ms) k b
        → Stands (sections f g (ks ++ ns) ms) a b
    o_second_section : {f g : List N → View V N} {a k b : ℕ} (ks : List N) {ns ms : List N}
        → Stands (g ks) a k → Stands (sections f g ns ms) k b
        → Stands (sections f g ns (ks ++ ms)) a b
