-- What a tree and a partial tree begin with has a partial tree.
use Rattle.std.proofs.Common.{◌≡◌, ℕ, suc, ◌+◌, ◌<◌, ◌≤◌, ◌⊎◌, inl, inr, List, length, arith}
use Rattle.text_reader.specs.Grammar.{Language, Grammar, Shape, Tree, t_done, t_word, t_token}
use Rattle.text_reader.specs.Grammar.{t_here, t_skip, t_seq, t_left, t_right, t_opt_out}
use Rattle.text_reader.specs.Grammar.{t_opt_in, t_rep_out, t_rep_in, t_nearest_out, t_nearest_in}
use Rattle.text_reader.specs.Grammar.{t_ended_out, t_ended_last, t_ended_in, t_deeper, t_rule}
use Rattle.text_reader.specs.Grammar.{Partial, p_none, p_whole, p_word, p_here, p_skip, p_first}
use Rattle.text_reader.specs.Grammar.{p_second, p_left, p_right, p_opt, p_rep_first, p_rep_more}
use Rattle.text_reader.specs.Grammar.{p_nearest, p_ended_first, p_ended_more, p_deeper, p_rule}
use Rattle.text_reader.specs.Sentences.{IsFirstBadPlace}
use Rattle.text_reader.specs.TreeLaws.{AtMostOneBadPlace, FrontsOfTree, FrontsOfPartial}
use Rattle.text_reader.proofs.Trees.{tree_of_fewer}

-- up to the end of a part, or after it
up_to : (m b : ℕ) → (m ≤ b) ⊎ (b ≤ m)
up_to m b = grind arith

-- at the beginning of a token, or after it
at_token : (m a : ℕ) → a ≤ m → (a ≡ m) ⊎ (suc a ≤ m)
at_token m a h = grind arith

module _ {Token V T P : Type 0} (L : Language Token V T P) (s : List Token) (n m : ℕ) (w : m ≤ n)
  where
    pub tree_front : {g : Grammar T P} {d a b : ℕ} {t : Shape V} → Tree L s n g d a b t → a ≤ m
        → m ≤ b → Partial L s m g d a
    tree_front t_done h l = p_none (omega arith)
    tree_front (t_word {a = a} k i e x) h l = elim (at_token m a h) [
      | inl q ↦ p_none q
      | inr q ↦ p_word k (omega arith) e (tree_front x q l)
    ]
    tree_front (t_token {a = a} v k i e z) h l = elim (at_token m a h) [
      | inl q ↦ p_none q
      | inr q ↦ p_whole (t_token v k (omega arith) e z) (omega arith)
    ]
    tree_front (t_here x) h l = p_here (tree_front x h l)
    tree_front (t_skip x) h l = p_skip (tree_front x h l)
    tree_front (t_seq {b = b} x y) h l = elim (up_to m b) [
      | inl q ↦ p_first (tree_front x h q)
      | inr q ↦ p_second (tree_of_fewer L s n m x q w) (tree_front y q l)
    ]
    tree_front (t_left x) h l = p_left (tree_front x h l)
    tree_front (t_right x) h l = p_right (tree_front x h l)
    tree_front t_opt_out h l = p_none (omega arith)
    tree_front (t_opt_in x) h l = p_opt (tree_front x h l)
    tree_front t_rep_out h l = p_none (omega arith)
    tree_front (t_rep_in {b = b} x y) h l = elim (up_to m b) [
      | inl q ↦ p_rep_first (tree_front x h q)
      | inr q ↦ p_rep_more (tree_of_fewer L s n m x q w) (tree_front y q l)
    ]
    tree_front (t_nearest_out z) h l = p_none (omega arith)
    tree_front (t_nearest_in {a = a} k i e x) h l = elim (at_token m a h) [
      | inl q ↦ p_none q
      | inr q ↦ p_nearest k (omega arith) e (tree_front x q l)
    ]
    tree_front t_ended_out h l = p_none (omega arith)
    tree_front (t_ended_last {a = a} k i e) h l = elim (at_token m a h) [
      | inl q ↦ p_none q
      | inr q ↦ p_whole (t_ended_last k (omega arith) e) (omega arith)
    ]
    tree_front (t_ended_in {a = a} {b = b} k i e x y) h l = elim (at_token m a h) [
      | inl q ↦ p_none q
      | inr q ↦ elim (up_to m b) [
        | inl r ↦ p_ended_first k (omega arith) e (tree_front x q r)
        | inr r ↦ p_ended_more k (omega arith) e (tree_of_fewer L s n m x r w) (tree_front y r l)
      ]
    ]
    tree_front (t_deeper x) h l = p_deeper (tree_front x h l)
    tree_front (t_rule x) h l = p_rule (tree_front x h l)

    pub partial_front : {g : Grammar T P} {d a : ℕ} → Partial L s n g d a → a ≤ m
        → Partial L s m g d a
    partial_front (p_none e) h = p_none (omega arith)
    partial_front (p_whole x e) h = tree_front x h (omega arith)
    partial_front (p_word {a = a} k i e x) h = elim (at_token m a h) [
      | inl q ↦ p_none q
      | inr q ↦ p_word k (omega arith) e (partial_front x q)
    ]
    partial_front (p_here x) h = p_here (partial_front x h)
    partial_front (p_skip x) h = p_skip (partial_front x h)
    partial_front (p_first x) h = p_first (partial_front x h)
    partial_front (p_second {b = b} x y) h = elim (up_to m b) [
      | inl q ↦ p_first (tree_front x h q)
      | inr q ↦ p_second (tree_of_fewer L s n m x q w) (partial_front y q)
    ]
    partial_front (p_left x) h = p_left (partial_front x h)
    partial_front (p_right x) h = p_right (partial_front x h)
    partial_front (p_opt x) h = p_opt (partial_front x h)
    partial_front (p_rep_first x) h = p_rep_first (partial_front x h)
    partial_front (p_rep_more {b = b} x y) h = elim (up_to m b) [
      | inl q ↦ p_rep_first (tree_front x h q)
      | inr q ↦ p_rep_more (tree_of_fewer L s n m x q w) (partial_front y q)
    ]
    partial_front (p_nearest {a = a} k i e x) h = elim (at_token m a h) [
      | inl q ↦ p_none q
      | inr q ↦ p_nearest k (omega arith) e (partial_front x q)
    ]
    partial_front (p_ended_first {a = a} k i e x) h = elim (at_token m a h) [
      | inl q ↦ p_none q
      | inr q ↦ p_ended_first k (omega arith) e (partial_front x q)
    ]
    partial_front (p_ended_more {a = a} {b = b} k i e x y) h = elim (at_token m a h) [
      | inl q ↦ p_none q
      | inr q ↦ elim (up_to m b) [
        | inl r ↦ p_ended_first k (omega arith) e (tree_front x q r)
        | inr r ↦ p_ended_more k (omega arith) e (tree_of_fewer L s n m x r w) (partial_front y r)
      ]
    ]
    partial_front (p_deeper x) h = p_deeper (partial_front x h)
    partial_front (p_rule x) h = p_rule (partial_front x h)

module _ {Token V T P : Type 0} where
  pub fronts_of_tree : FrontsOfTree Token V T P
  fronts_of_tree L g d s t n l x = tree_front L s (length s) n l x (omega arith) l

  pub fronts_of_partial : FrontsOfPartial Token V T P
  fronts_of_partial L g d s m n l x = partial_front L s n m l x (omega arith)

  no_later : (L : Language Token V T P) (g : Grammar T P) (d : ℕ) (s : List Token) (i j : ℕ)
      → IsFirstBadPlace L g d s i → IsFirstBadPlace L g d s j → i < j → ⊥
  no_later L g d s i j x y l = x.no_more (omega (arith, y.inside))
      (fronts_of_partial L g d s (i + 1) j (omega arith) y.front)

  pub at_most_one_bad_place : AtMostOneBadPlace Token V T P
  at_most_one_bad_place L g d s i j x y = elim (in_order i j) [
    | inl e ↦ e
    | inr o ↦ elim o [
      | inl l ↦ absurd (no_later L g d s i j x y l)
      | inr l ↦ absurd (no_later L g d s j i y x l)
    ]
  ]
    where
      in_order : (i j : ℕ) → (i ≡ j) ⊎ ((i < j) ⊎ (j < i))
      in_order i j = grind arith
