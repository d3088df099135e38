-- The places of a tree ascend, and so does what a value shows of it.
use Rattle.std.proofs.Common.{ℕ, suc, ◌<◌, ◌≤◌, List, length, arith}
use Rattle.text_reader.specs.Grammar.{Language, Grammar, Shape, nothing, leaf, placed, both}
use Rattle.text_reader.specs.Grammar.{left, right, some, Tree, t_done, t_word, t_token}
use Rattle.text_reader.specs.Grammar.{t_here, t_skip, t_seq, t_left, t_right, t_opt_out}
use Rattle.text_reader.specs.Grammar.{t_opt_in, t_rep_out, t_rep_in, t_nearest_out, t_nearest_in}
use Rattle.text_reader.specs.Grammar.{t_ended_out, t_ended_last, t_ended_in, t_deeper, t_rule}
use Rattle.text_reader.specs.Shown.{View, Shows, s_empty, s_kept, s_at, s_pair, s_first}
use Rattle.text_reader.specs.Shown.{s_second, s_given, s_node, s_none, s_more, s_no_section}
use Rattle.text_reader.specs.Shown.{s_first_section, s_second_section}
use Rattle.text_reader.proofs.Trees.{tree_forward}
use Rattle.text_reader.specs.Tests.{language}
use Rattle.text_productions.specs.Productions.{production}
use Rattle.text_productions.specs.Nodes.{layer}
use Rattle.law_places.specs.PlaceOrder.{Stands, o_empty, o_kept, o_at, o_pair, o_first, o_second}
use Rattle.law_places.specs.PlaceOrder.{o_given, o_node, o_none, o_more, o_no_section}
use Rattle.law_places.specs.PlaceOrder.{o_first_section, o_second_section}
use Rattle.law_places.specs.PlacesAscend.{PlacesAscend}

-- the places of a shape ascend from one place to another
abbrev pub Ascends : {V : Type 0} → ℕ → ℕ → Shape V → Type 0
Ascends a b nothing = a ≤ b
Ascends a b (leaf v) = a < b
Ascends a b (placed p t) = (a ≤ p) × Ascends p b t
Ascends a b (both t u) = (k : ℕ) × Ascends a k t × Ascends k b u
Ascends a b (left t) = Ascends a b t
Ascends a b (right t) = Ascends a b t
Ascends a b (some t) = Ascends a b t

-- what ascends from a place ascends from an earlier one
earlier : {V : Type 0} (a b c : ℕ) (t : Shape V) → a ≤ c → Ascends c b t → Ascends a b t
earlier a b c nothing l h = omega arith
earlier a b c (leaf v) l h = omega arith
earlier a b c (placed p t) l h = (omega (arith, h.0), h.1)
earlier a b c (both t u) l h = (h.0, earlier a h.0 c t l h.1, h.2)
earlier a b c (left t) l h = earlier a b c t l h
earlier a b c (right t) l h = earlier a b c t l h
earlier a b c (some t) l h = earlier a b c t l h

module _ {Token V T P : Type 0} (L : Language Token V T P) (s : List Token) (n : ℕ) where
  forward : {g : Grammar T P} {d a b : ℕ} {t : Shape V} → Tree L s n g d a b t → a ≤ b
  forward x = tree_forward L s n x

  -- the places of a tree ascend
  pub ascends : {g : Grammar T P} {d a b : ℕ} {t : Shape V} → Tree L s n g d a b t → Ascends a b t
  ascends t_done = omega arith
  ascends (t_word {a = a} {b = b} {t = t} k l e x) =
      earlier a b (suc a) t (omega arith) (ascends x)
  ascends (t_token v k l e z) = omega arith
  ascends (t_here {a = a} x) = (omega arith, ascends x)
  ascends (t_skip x) = forward x
  ascends (t_seq {b = b} x y) = (b, ascends x, ascends y)
  ascends (t_left x) = ascends x
  ascends (t_right x) = ascends x
  ascends t_opt_out = omega arith
  ascends (t_opt_in x) = ascends x
  ascends t_rep_out = omega arith
  ascends (t_rep_in {b = b} x y) = (b, ascends x, ascends y)
  ascends (t_nearest_out h) = omega arith
  ascends (t_nearest_in {a = a} {b = b} {t = t} k l e x) =
      earlier a b (suc a) t (omega arith) (ascends x)
  ascends t_ended_out = omega arith
  ascends (t_ended_last k l e) = omega arith
  ascends (t_ended_in {a = a} {b = b} {t = t} k l e x y) =
      (b, earlier a b (suc a) t (omega arith) (ascends x), ascends y)
  ascends (t_deeper x) = ascends x
  ascends (t_rule x) = ascends x

module _ {V N : Type 0} (layer : N → View V N) where
  -- what shows a shape whose places ascend stands in order
  pub shown_stands : (a b : ℕ) {v : View V N} {t : Shape V} → Shows layer v t → Ascends a b t
      → Stands layer v a b
  shown_stands a b s_empty h = o_empty h
  shown_stands a b (s_kept v) h = o_kept h
  shown_stands a b (s_at p x) h = o_at h.0 (shown_stands p b x h.1)
  shown_stands a b (s_pair x y) h = o_pair (shown_stands a h.0 x h.1) (shown_stands h.0 b y h.2)
  shown_stands a b (s_first x) h = o_first (shown_stands a b x h)
  shown_stands a b (s_second x) h = o_second (shown_stands a b x h)
  shown_stands a b (s_given x) h = o_given (shown_stands a b x h)
  shown_stands a b (s_node x) h = o_node (shown_stands a b x h)
  shown_stands a b s_none h = o_none h
  shown_stands a b (s_more x y) h = o_more (shown_stands a h.0 x h.1) (shown_stands h.0 b y h.2)
  shown_stands a b s_no_section h = o_no_section h
  shown_stands a b (s_first_section ks x y) h =
      o_first_section ks (shown_stands a h.0 x h.1) (shown_stands h.0 b y h.2)
  shown_stands a b (s_second_section ks x y) h =
      o_second_section ks (shown_stands a h.0 x h.1) (shown_stands h.0 b y h.2)

pub specification_stands : PlacesAscend
specification_stands text tokens spec h =
    shown_stands layer 0 (length tokens) h.shows
    (ascends (language production text) tokens (length tokens) h.tree)
