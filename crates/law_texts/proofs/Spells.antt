-- What a view shows of a tree is so of each token that it keeps, where each such token is so.
use Rattle.std.specs.Prelude.{◌&&◌}
use Rattle.std.proofs.Common.{◌≡◌, ℕ, Bool, true, List, [], ◌∷◌, ◌++◌}
use Rattle.std.proofs.lemmas.Bool.{and_parts}
use Rattle.text_reader.specs.Grammar.{Language, Grammar, Shape, nothing, leaf, placed, both}
use Rattle.text_reader.specs.Grammar.{left, right, some, done, none, word, token, here, skip, seq}
use Rattle.text_reader.specs.Grammar.{alt, opt, rep, nearest, ended, deeper, rule, At, Keeps, Tree}
use Rattle.text_reader.specs.Grammar.{t_done, t_word, t_token, t_here, t_skip, t_seq, t_left}
use Rattle.text_reader.specs.Grammar.{t_right, t_opt_out, t_opt_in, t_rep_out, t_rep_in}
use Rattle.text_reader.specs.Grammar.{t_nearest_out, t_nearest_in, t_ended_out, t_ended_last}
use Rattle.text_reader.specs.Grammar.{t_ended_in, t_deeper, t_rule}
use Rattle.text_reader.specs.Shown.{View, empty, kept, at, pair, first, second, given, node, nodes}
use Rattle.text_reader.specs.Shown.{sections, Shows, s_empty, s_kept, s_at, s_pair, s_first}
use Rattle.text_reader.specs.Shown.{s_second, s_given, s_node, s_none, s_more, s_no_section}
use Rattle.text_reader.specs.Shown.{s_first_section, s_second_section}

-- each token that a shape keeps is so
module _ {V : Type 0} (P : V → Type 0) where
  abbrev pub OfLeaves : Shape V → Type 0
  OfLeaves nothing = Unit {0}
  OfLeaves (leaf v) = P v
  OfLeaves (placed place t) = OfLeaves t
  OfLeaves (both t u) = OfLeaves t × OfLeaves u
  OfLeaves (left t) = OfLeaves t
  OfLeaves (right t) = OfLeaves t
  OfLeaves (some t) = OfLeaves t

-- and so is each that a view keeps
module _ {V N : Type 0} (P : V → Type 0) (layer : N → View V N) where
  pub data Spells : View V N → Type 0 where
    w_empty : Spells empty
    w_kept : {v : V} → P v → Spells (kept v)
    w_at : {place : ℕ} {w : View V N} → Spells w → Spells (at place w)
    w_pair : {w x : View V N} → Spells w → Spells x → Spells (pair w x)
    w_first : {w : View V N} → Spells w → Spells (first w)
    w_second : {w : View V N} → Spells w → Spells (second w)
    w_given : {w : View V N} → Spells w → Spells (given w)
    w_node : {n : N} → Spells (layer n) → Spells (node n)
    w_none : Spells (nodes [])
    w_more : {n : N} {ns : List N} → Spells (node n) → Spells (nodes ns) → Spells (nodes (n ∷ ns))
    w_no_section : {f g : List N → View V N} → Spells (sections f g [] [])
    w_first_section : {f g : List N → View V N} (ks : List N) {ns ms : List N} → Spells (f ks)
        → Spells (sections f g ns ms) → Spells (sections f g (ks ++ ns) ms)
    w_second_section : {f g : List N → View V N} (ks : List N) {ns ms : List N} → Spells (g ks)
        → Spells (sections f g ns ms) → Spells (sections f g ns (ks ++ ms))

  -- a view that shows such a shape
  pub shown_spells : {v : View V N} {t : Shape V} → Shows layer v t → OfLeaves P t → Spells v
  shown_spells s_empty h = w_empty
  shown_spells (s_kept v) h = w_kept h
  shown_spells (s_at place x) h = w_at (shown_spells x h)
  shown_spells (s_pair x y) h = w_pair (shown_spells x h.0) (shown_spells y h.1)
  shown_spells (s_first x) h = w_first (shown_spells x h)
  shown_spells (s_second x) h = w_second (shown_spells x h)
  shown_spells (s_given x) h = w_given (shown_spells x h)
  shown_spells (s_node x) h = w_node (shown_spells x h)
  shown_spells s_none h = w_none
  shown_spells (s_more x y) h = w_more (shown_spells x h.0) (shown_spells y h.1)
  shown_spells s_no_section h = w_no_section
  shown_spells (s_first_section ks x y) h =
      w_first_section ks (shown_spells x h.0) (shown_spells y h.1)
  shown_spells (s_second_section ks x y) h =
      w_second_section ks (shown_spells x h.0) (shown_spells y h.1)

-- each token that a grammar keeps meets a test that passes another
module _ {T R : Type 0} (passes : T → Bool) where
  abbrev pub keeps_such : Grammar T R → Bool
  keeps_such done = true
  keeps_such none = true
  keeps_such (word k g) = keeps_such g
  keeps_such (token k) = passes k
  keeps_such (here g) = keeps_such g
  keeps_such (skip g) = true
  keeps_such (seq g h) = keeps_such g && keeps_such h
  keeps_such (alt g h) = keeps_such g && keeps_such h
  keeps_such (opt g) = keeps_such g
  keeps_such (rep g) = keeps_such g
  keeps_such (nearest k g) = keeps_such g
  keeps_such (ended k g) = keeps_such g
  keeps_such (deeper g) = keeps_such g
  keeps_such (rule p) = true

-- then the shape of a tree keeps such tokens
module _ {Token V T R : Type 0} (L : Language Token V T R) (s : List Token) (n : ℕ)
    (P : V → Type 0) (passes : T → Bool)
    (productions : (p : R) → keeps_such passes (L.production p) ≡ true)
    (keeps : (a : ℕ) (k : T) (v : V) → passes k ≡ true → At L s a k → Keeps L s a v → P v) where
  pub leaves : {g : Grammar T R} {d a b : ℕ} {t : Shape V} → keeps_such passes g ≡ true
      → Tree L s n g d a b t → OfLeaves P t
  leaves e t_done = tt
  leaves e (t_word k l h x) = leaves e x
  leaves e (t_token {a = a} v k l h z) = keeps a k v e h z
  leaves e (t_here x) = leaves e x
  leaves e (t_skip x) = tt
  leaves e (t_seq {g = g} {h = h} x y) =
      let q = and_parts (keeps_such passes g) (keeps_such passes h) e in
      (leaves q.0 x, leaves q.1 y)
  leaves e (t_left {g = g} {h = h} x) =
      leaves (and_parts (keeps_such passes g) (keeps_such passes h) e).0 x
  leaves e (t_right {g = g} {h = h} x) =
      leaves (and_parts (keeps_such passes g) (keeps_such passes h) e).1 x
  leaves e t_opt_out = tt
  leaves e (t_opt_in x) = leaves e x
  leaves e t_rep_out = tt
  leaves e (t_rep_in x y) = (leaves e x, leaves e y)
  leaves e (t_nearest_out h) = tt
  leaves e (t_nearest_in k l h x) = leaves e x
  leaves e t_ended_out = tt
  leaves e (t_ended_last k l h) = tt
  leaves e (t_ended_in k l h x y) = (leaves e x, leaves e y)
  leaves e (t_deeper x) = leaves e x
  leaves e (t_rule {p = p} x) = leaves (productions p) x
