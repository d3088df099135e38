-- What a token that opens a level too many says of the partial trees.
use Rattle.std.proofs.Common.{ℕ, suc, ◌+◌, ◌≤◌, List, sym, subst, add-one, arith}
use Rattle.text_reader.specs.Grammar.{Language, Grammar, Shape, Tree, Partial, p_none}
use Rattle.text_reader.specs.Grammar.{p_word, p_here, p_skip, p_first, p_second, p_left}
use Rattle.text_reader.specs.Grammar.{p_right, p_opt, p_rep_first, p_rep_more, p_nearest}
use Rattle.text_reader.specs.Grammar.{p_ended_first, p_ended_more, p_deeper, p_rule}
use Rattle.text_reader.specs.Opening.{OpensOneMore, o_now, o_word, o_here, o_skip, o_first}
use Rattle.text_reader.specs.Opening.{o_second, o_left, o_right, o_opt, o_rep_first, o_rep_more}
use Rattle.text_reader.specs.Opening.{o_nearest, o_ended_first, o_ended_more, o_deeper, o_rule}
use Rattle.text_reader.proofs.Trees
use Rattle.text_reader.specs.Sentences.{HasPartial}
use Rattle.text_reader.specs.TreeLaws.{OpenersAreTold}

module _ {Token V T P : Type 0} (L : Language Token V T P) (s : List Token) (i : ℕ) where
  -- the token stands after the place where the part begins, or there
  pub opens_forward : {g : Grammar T P} {d a : ℕ} → OpensOneMore L s i g d a → a ≤ i
  opens_forward (o_now e x) = omega (arith, e)
  opens_forward (o_word k l e x) = omega arith
  opens_forward (o_here x) = opens_forward x
  opens_forward (o_skip x) = opens_forward x
  opens_forward (o_first x) = opens_forward x
  opens_forward (o_second x y) = omega (arith, Trees.tree_forward L s (suc i) x, opens_forward y)
  opens_forward (o_left x) = opens_forward x
  opens_forward (o_right x) = opens_forward x
  opens_forward (o_opt x) = opens_forward x
  opens_forward (o_rep_first x) = opens_forward x
  opens_forward (o_rep_more x y) = omega (arith, Trees.tree_forward L s (suc i) x, opens_forward y)
  opens_forward (o_nearest k l e x) = omega arith
  opens_forward (o_ended_first k l e x) = omega arith
  opens_forward (o_ended_more k l e x y) = omega arith
  opens_forward (o_deeper x) = opens_forward x
  opens_forward (o_rule x) = opens_forward x

  fewer : {g h : Grammar T P} {d a b : ℕ} {t : Shape V} → Tree L s (suc i) g d a b t
      → OpensOneMore L s i h d b → Tree L s i g d a b t
  fewer x y = Trees.tree_of_fewer L s (suc i) i x (opens_forward y) (omega arith)

  -- what stands before it is a partial tree with these levels
  pub opens_front : {g : Grammar T P} {d a : ℕ} → OpensOneMore L s i g d a → Partial L s i g d a
  opens_front (o_now e x) = p_none e
  opens_front (o_word k l e x) = p_word k l e (opens_front x)
  opens_front (o_here x) = p_here (opens_front x)
  opens_front (o_skip x) = p_skip (opens_front x)
  opens_front (o_first x) = p_first (opens_front x)
  opens_front (o_second x y) = p_second (fewer x y) (opens_front y)
  opens_front (o_left x) = p_left (opens_front x)
  opens_front (o_right x) = p_right (opens_front x)
  opens_front (o_opt x) = p_opt (opens_front x)
  opens_front (o_rep_first x) = p_rep_first (opens_front x)
  opens_front (o_rep_more x y) = p_rep_more (fewer x y) (opens_front y)
  opens_front (o_nearest k l e x) = p_nearest k l e (opens_front x)
  opens_front (o_ended_first k l e x) = p_ended_first k l e (opens_front x)
  opens_front (o_ended_more k l e x y) = p_ended_more k l e (fewer x y) (opens_front y)
  opens_front (o_deeper x) = p_deeper (opens_front x)
  opens_front (o_rule x) = p_rule (opens_front x)

  -- and with it there is one with one level more
  pub opens_more : {g : Grammar T P} {d a : ℕ} → OpensOneMore L s i g d a
      → Partial L s (suc i) g (suc d) a
  opens_more (o_now e x) = p_deeper x
  opens_more (o_word k l e x) = p_word k (omega arith) e (opens_more x)
  opens_more (o_here x) = p_here (opens_more x)
  opens_more (o_skip x) = p_skip (opens_more x)
  opens_more (o_first x) = p_first (opens_more x)
  opens_more (o_second x y) = p_second (Trees.tree_deeper L s (suc i) x) (opens_more y)
  opens_more (o_left x) = p_left (opens_more x)
  opens_more (o_right x) = p_right (opens_more x)
  opens_more (o_opt x) = p_opt (opens_more x)
  opens_more (o_rep_first x) = p_rep_first (opens_more x)
  opens_more (o_rep_more x y) = p_rep_more (Trees.tree_deeper L s (suc i) x) (opens_more y)
  opens_more (o_nearest k l e x) = p_nearest k (omega arith) e (opens_more x)
  opens_more (o_ended_first k l e x) = p_ended_first k (omega arith) e (opens_more x)
  opens_more (o_ended_more k l e x y) = p_ended_more k (omega arith) e
      (Trees.tree_deeper L s (suc i) x) (opens_more y)
  opens_more (o_deeper x) = p_deeper (opens_more x)
  opens_more (o_rule x) = p_rule (opens_more x)

-- the law
pub openers_are_told : {Token V T P : Type 0} → OpenersAreTold Token V T P
openers_are_told L g d s i x = (
  opens_front L s i x,
  subst (λ v. HasPartial L g v s (i + 1)) (sym (add-one d)) (subst (λ v. HasPartial L g (suc d) s v)
      (sym (add-one i)) (opens_more L s i x)),
)
