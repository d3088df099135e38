-- Views: which shapes a value shows, a layer at a time.
use Rattle.std.specs.Prelude.{ℕ, List, [], ◌∷◌, ◌++◌}
use Rattle.text_reader.specs.Grammar.{Shape, nothing, leaf, placed, both, left, right, some}

-- One layer of a value, over what trees keep V and parts N of values.
pub data View (V N : Type 0) : Type 0 where
  -- nothing
  empty : View V N
  -- what is kept of a token
  kept : V → View V N
  -- a place, and the rest
  at : ℕ → View V N → View V N
  -- one, and then the other
  pair : View V N → View V N → View V N
  -- the first or the second of two alternatives
  first second : View V N → View V N
  -- what may be left out
  given : View V N → View V N
  -- a part
  node : N → View V N
  -- what no text has
  nowhere : View V N
  -- parts, one after the other
  nodes : List N → View V N
  -- parts of two sorts, in any runs of either sort, of which each is shown so
  sections : (List N → View V N) → (List N → View V N) → List N → List N → View V N

module _ {V N : Type 0} (layer : N → View V N) where
  -- a view shows a shape
  pub data Shows : View V N → Shape V → Type 0 where
    s_empty : Shows empty nothing
    s_kept : (v : V) → Shows (kept v) (leaf v)
    s_at : {w : View V N} {t : Shape V} (p : ℕ) → Shows w t → Shows (at p w) (placed p t)
    s_pair : {w x : View V N} {t u : Shape V} → Shows w t → Shows x u → Shows (pair w x) (both t u)
    s_first : {w : View V N} {t : Shape V} → Shows w t → Shows (first w) (left t)
    s_second : {w : View V N} {t : Shape V} → Shows w t → Shows (second w) (right t)
    s_given : {w : View V N} {t : Shape V} → Shows w t → Shows (given w) (some t)
    s_node : {n : N} {t : Shape V} → Shows (layer n) t → Shows (node n) t
    s_none : Shows (nodes []) nothing
    s_more : {n : N} {ns : List N} {t u : Shape V} → Shows (node n) t → Shows (nodes ns) u
        → Shows (nodes (n ∷ ns)) (both t u)
    s_no_section : {f g : List N → View V N} → Shows (sections f g [] []) nothing
    s_first_section : {f g : List N → View V N} (ks : List N) {ns ms : List N} {t u : Shape V}
        → Shows (f ks) t → Shows (sections f g ns ms) u
        → Shows (sections f g (ks ++ ns) ms) (both (left t) u)
    s_second_section : {f g : List N → View V N} (ks : List N) {ns ms : List N} {t u : Shape V}
        → Shows (g ks) t → Shows (sections f g ns ms) u
        → Shows (sections f g ns (ks ++ ms)) (both (right t) u)
