-- Where the places that a tree keeps lie, and how many tokens a tree takes.
use Rattle.std.proofs.Common.{◌≡◌, ℕ, suc, ◌+◌, ◌<◌, ◌≤◌, false, List, [], ◌∷◌, length, arith}
use Rattle.text_reader.specs.Grammar.{Language, Grammar, rep, Shape, nothing, leaf, placed, both}
use Rattle.text_reader.specs.Grammar.{left, right, some, chain, Tree, t_done, t_word, t_token}
use Rattle.text_reader.specs.Grammar.{t_here, t_skip, t_seq, t_left, t_right, t_opt_out}
use Rattle.text_reader.specs.Grammar.{t_opt_in, t_rep_out, t_rep_in, t_nearest_out, t_nearest_in}
use Rattle.text_reader.specs.Grammar.{t_ended_out, t_ended_last, t_ended_in, t_deeper, t_rule}
use Rattle.text_reader.specs.Marks.{Marks, can_be_empty, Fits}
use Rattle.text_reader.specs.Shown.{View, Shows, nodes, s_more}
use Rattle.text_reader.specs.Extents.{IsPlacedWithin, leaves}
use Rattle.text_reader.specs.TreeLaws.{PlacesLieWithin, LeavesAreTokens}
use Rattle.text_reader.specs.TreeLaws.{TreesTakeTokens, TurnsTakeTokens}
use Rattle.text_reader.proofs.Trees.{tree_forward, tree_moves}

-- what lies within narrow bounds lies within wide ones
pub placed_wider : {V : Type 0} (a b c d : ℕ) (t : Shape V) → a ≤ c → d ≤ b → IsPlacedWithin c d t
    → IsPlacedWithin a b t
placed_wider a b c d nothing l m h = tt
placed_wider a b c d (leaf v) l m h = tt
placed_wider a b c d (placed p t) l m h =
    (omega (arith, h.0), omega (arith, h.1), placed_wider a b c d t l m h.2)
placed_wider a b c d (both t u) l m h =
    (placed_wider a b c d t l m h.0, placed_wider a b c d u l m h.1)
placed_wider a b c d (left t) l m h = placed_wider a b c d t l m h
placed_wider a b c d (right t) l m h = placed_wider a b c d t l m h
placed_wider a b c d (some t) l m h = placed_wider a b c d t l m h

module _ {Token V T P : Type 0} (L : Language Token V T P) (s : List Token) (n : ℕ) where
  forward : {g : Grammar T P} {d a b : ℕ} {t : Shape V} → Tree L s n g d a b t → a ≤ b
  forward x = tree_forward L s n x

  -- each token that a tree keeps is one of those that it takes
  pub leaves_are_tokens : {g : Grammar T P} {d a b : ℕ} {t : Shape V} → Tree L s n g d a b t
      → a + leaves t ≤ b
  leaves_are_tokens t_done = omega arith
  leaves_are_tokens (t_word k l e x) = omega (arith, leaves_are_tokens x)
  leaves_are_tokens (t_token v k l e z) = omega arith
  leaves_are_tokens (t_here x) = leaves_are_tokens x
  leaves_are_tokens (t_skip x) = omega (arith, forward x)
  leaves_are_tokens (t_seq x y) = omega (arith, leaves_are_tokens x, leaves_are_tokens y)
  leaves_are_tokens (t_left x) = leaves_are_tokens x
  leaves_are_tokens (t_right x) = leaves_are_tokens x
  leaves_are_tokens t_opt_out = omega arith
  leaves_are_tokens (t_opt_in x) = leaves_are_tokens x
  leaves_are_tokens t_rep_out = omega arith
  leaves_are_tokens (t_rep_in x y) = omega (arith, leaves_are_tokens x, leaves_are_tokens y)
  leaves_are_tokens (t_nearest_out h) = omega arith
  leaves_are_tokens (t_nearest_in k l e x) = omega (arith, leaves_are_tokens x)
  leaves_are_tokens t_ended_out = omega arith
  leaves_are_tokens (t_ended_last k l e) = omega arith
  leaves_are_tokens (t_ended_in k l e x y) = omega (arith, leaves_are_tokens x, leaves_are_tokens y)
  leaves_are_tokens (t_deeper x) = leaves_are_tokens x
  leaves_are_tokens (t_rule x) = leaves_are_tokens x

  -- the places that a tree keeps lie within it
  pub places_lie_within : {g : Grammar T P} {d a b : ℕ} {t : Shape V} → Tree L s n g d a b t
      → IsPlacedWithin a b t
  places_lie_within t_done = tt
  places_lie_within (t_word {a = a} {b = b} {t = t} k l e x) = placed_wider a b (suc a) b t
      (omega arith) (omega arith) (places_lie_within x)
  places_lie_within (t_token v k l e z) = tt
  places_lie_within (t_here x) = (omega arith, leaves_are_tokens x, places_lie_within x)
  places_lie_within (t_skip x) = tt
  places_lie_within (t_seq {a = a} {b = b} {c = c} {t = t} {u = u} x y) = (
    placed_wider a c a b t (omega arith) (forward y) (places_lie_within x),
    placed_wider a c b c
        u (forward x) (omega arith) (places_lie_within y),
  )
  places_lie_within (t_left x) = places_lie_within x
  places_lie_within (t_right x) = places_lie_within x
  places_lie_within t_opt_out = tt
  places_lie_within (t_opt_in x) = places_lie_within x
  places_lie_within t_rep_out = tt
  places_lie_within (t_rep_in {a = a} {b = b} {c = c} {t = t} {u = u} x y) = (
    placed_wider a c a b t (omega arith) (forward y) (places_lie_within x),
    placed_wider a c b c
        u (forward x) (omega arith) (places_lie_within y),
  )
  places_lie_within (t_nearest_out h) = tt
  places_lie_within (t_nearest_in {a = a} {b = b} {t = t} k l e x) = placed_wider a b (suc a) b t
      (omega arith) (omega arith) (places_lie_within x)
  places_lie_within t_ended_out = tt
  places_lie_within (t_ended_last k l e) = tt
  places_lie_within (t_ended_in {a = a} {b = b} {c = c} {t = t} {u = u} k l e x y) = (
    placed_wider a c (suc a) b t (omega arith) (forward y) (places_lie_within x),
    placed_wider a
        c b c u (omega (arith, forward x)) (omega arith) (places_lie_within y),
  )
  places_lie_within (t_deeper x) = places_lie_within x
  places_lie_within (t_rule x) = places_lie_within x

  module _ {S : Marks T P} (fits : Fits L S) where
    -- a tree of what cannot be empty takes a token
    pub trees_take_tokens : {g : Grammar T P} {d a b : ℕ} {t : Shape V} → can_be_empty S g ≡ false
        → Tree L s n g d a b t → a < b
    trees_take_tokens e x = tree_moves L s S fits n x e

    -- and so does each turn of a repetition
    pub turns_take_tokens : (ts : List (Shape V)) {g : Grammar T P} {d a b : ℕ}
        → can_be_empty S g ≡ false → Tree L s n (rep g) d a b (chain ts nothing) → a + length ts ≤ b
    turns_take_tokens [] e x = omega (arith, forward x)
    turns_take_tokens (t ∷ ts) e (t_rep_in x y) =
        omega (arith, trees_take_tokens e x, turns_take_tokens ts e y)

    -- and so does each of the parts that it shows
    pub parts_take_tokens : {N : Type 0} {layer : N → View V N} (ns : List N) {g : Grammar T P}
        {d a b : ℕ} {t : Shape V} → can_be_empty S g ≡ false → Tree L s n (rep g) d a b t
        → Shows layer (nodes ns) t → a + length ns ≤ b
    parts_take_tokens [] e x h = omega (arith, forward x)
    parts_take_tokens (m ∷ ns) e t_rep_out h = elim h [ ]
    parts_take_tokens (m ∷ ns) e (t_rep_in x y) (s_more h k) =
        omega (arith, trees_take_tokens e x, parts_take_tokens ns e y k)

-- the laws
module _ {Token V T P : Type 0} where
  pub law_places : PlacesLieWithin Token V T P
  law_places L g d s n a b t x = places_lie_within L s n x

  pub law_leaves : LeavesAreTokens Token V T P
  law_leaves L g d s n a b t x = leaves_are_tokens L s n x

  pub law_trees : TreesTakeTokens Token V T P
  law_trees L S g d s n a b t fits e x = trees_take_tokens L s n fits e x

  pub law_turns : TurnsTakeTokens Token V T P
  law_turns L S g d s n a b ts fits e x = turns_take_tokens L s n fits ts e x
