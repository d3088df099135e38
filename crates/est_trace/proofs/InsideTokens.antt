-- A partial tree takes no more tokens than there are.
use Rattle.std.proofs.Common.{ℕ, suc, ◌≤◌, List, length, arith}
use Rattle.text_reader.specs.Grammar.{Grammar, Language, Shape, Tree, t_done, t_word, t_token}
use Rattle.text_reader.specs.Grammar.{t_here, t_skip, t_seq, t_left, t_right, t_opt_out, t_opt_in}
use Rattle.text_reader.specs.Grammar.{t_rep_out, t_rep_in, t_nearest_out, t_nearest_in}
use Rattle.text_reader.specs.Grammar.{t_ended_out, t_ended_last, t_ended_in, t_deeper, t_rule}
use Rattle.text_reader.specs.Grammar.{Partial, p_none, p_whole, p_word, p_here, p_skip, p_first}
use Rattle.text_reader.specs.Grammar.{p_second, p_left, p_right, p_opt, p_rep_first, p_rep_more}
use Rattle.text_reader.specs.Grammar.{p_nearest, p_ended_first, p_ended_more, p_deeper, p_rule, At}
use Rattle.text_reader.proofs.GrammarLaws.{at_inside}

module _ {Token V T P : Type 0} (L : Language Token V T P) (s : List Token) where
  -- after a token that is there
  behind : (a : ℕ) (k : T) → At L s a k → suc a ≤ length s
  behind a k e = let l = at_inside L s a k e in omega (arith, l)

  tree_within : (n : ℕ) {g : Grammar T P} {d a b : ℕ} {t : Shape V} → Tree L s n g d a b t
      → a ≤ length s → b ≤ length s
  tree_within n t_done h = h
  tree_within n {a = a} (t_word k l e x) h = tree_within n x (behind a k e)
  tree_within n {a = a} (t_token v k l e z) h = behind a k e
  tree_within n (t_here x) h = tree_within n x h
  tree_within n (t_skip x) h = tree_within n x h
  tree_within n (t_seq x y) h = tree_within n y (tree_within n x h)
  tree_within n (t_left x) h = tree_within n x h
  tree_within n (t_right x) h = tree_within n x h
  tree_within n t_opt_out h = h
  tree_within n (t_opt_in x) h = tree_within n x h
  tree_within n t_rep_out h = h
  tree_within n (t_rep_in x y) h = tree_within n y (tree_within n x h)
  tree_within n (t_nearest_out k) h = h
  tree_within n {a = a} (t_nearest_in k l e x) h = tree_within n x (behind a k e)
  tree_within n t_ended_out h = h
  tree_within n {a = a} (t_ended_last k l e) h = behind a k e
  tree_within n {a = a} (t_ended_in k l e x y) h =
      tree_within n y (tree_within n x (behind a k e))
  tree_within n (t_deeper x) h = tree_within n x h
  tree_within n (t_rule x) h = tree_within n x h

  pub partial_within : (n : ℕ) {g : Grammar T P} {d a : ℕ} → Partial L s n g d a
      → a ≤ length s → n ≤ length s
  partial_within n (p_none q) h = omega (arith, q, h)
  partial_within n (p_whole x q) h = let l = tree_within n x h in omega (arith, q, l)
  partial_within n {a = a} (p_word k l e x) h = partial_within n x (behind a k e)
  partial_within n (p_here x) h = partial_within n x h
  partial_within n (p_skip x) h = partial_within n x h
  partial_within n (p_first x) h = partial_within n x h
  partial_within n (p_second x y) h = partial_within n y (tree_within n x h)
  partial_within n (p_left x) h = partial_within n x h
  partial_within n (p_right x) h = partial_within n x h
  partial_within n (p_opt x) h = partial_within n x h
  partial_within n (p_rep_first x) h = partial_within n x h
  partial_within n (p_rep_more x y) h = partial_within n y (tree_within n x h)
  partial_within n {a = a} (p_nearest k l e x) h = partial_within n x (behind a k e)
  partial_within n {a = a} (p_ended_first k l e x) h = partial_within n x (behind a k e)
  partial_within n {a = a} (p_ended_more k l e x y) h =
      partial_within n y (tree_within n x (behind a k e))
  partial_within n (p_deeper x) h = partial_within n x h
  partial_within n (p_rule x) h = partial_within n x h
