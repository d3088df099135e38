-- What is seen alike has the same trees, partial trees and refusals.
use Rattle.std.proofs.Common.{◌≡◌, ℕ, suc, ◌+◌, ◌<◌, ◌≤◌, inl, inr}
use Rattle.std.proofs.Common.{List, length, sym, subst, ◌∙◌, arith}
use Rattle.text_reader.specs.Grammar.{Language, Grammar, Shape, At, Tree, t_done, t_word}
use Rattle.text_reader.specs.Grammar.{t_token, t_here, t_skip, t_seq, t_left, t_right, t_opt_out}
use Rattle.text_reader.specs.Grammar.{t_opt_in, t_rep_out, t_rep_in, t_nearest_out, t_nearest_in}
use Rattle.text_reader.specs.Grammar.{t_ended_out, t_ended_last, t_ended_in, t_deeper, t_rule}
use Rattle.text_reader.specs.Grammar.{Partial, p_none, p_whole, p_word, p_here, p_skip, p_first}
use Rattle.text_reader.specs.Grammar.{p_second, p_left, p_right, p_opt, p_rep_first, p_rep_more}
use Rattle.text_reader.specs.Grammar.{p_nearest, p_ended_first, p_ended_more, p_deeper, p_rule}
use Rattle.text_reader.specs.Opening.{OpensOneMore, o_now, o_word, o_here, o_skip, o_first}
use Rattle.text_reader.specs.Opening.{o_second, o_left, o_right, o_opt, o_rep_first, o_rep_more}
use Rattle.text_reader.specs.Opening.{o_nearest, o_ended_first, o_ended_more, o_deeper, o_rule}
use Rattle.text_reader.specs.Sentences.{IsFirstBadPlace}
use Rattle.text_reader.specs.Refusals.{unsaid, wrong_at, too_deep_at}
use Rattle.text_reader.specs.SeenAlike.{AreSeenAlike}
use Rattle.text_reader.specs.TreeLaws.{SameTrees, SameCauses, RefusalsStay}
use Rattle.text_reader.proofs.Trees.{step}
use Rattle.text_reader.proofs.Fronts.{fronts_of_tree}

module _ {Token V T P : Type 0} {L M : Language Token V T P} {s r : List Token} {m : ℕ}
    (w : AreSeenAlike L M s r m) where
  there : {a : ℕ} (k : T) → a < m → At L s a k → At M r a k
  there {a} k l e = sym (w.tests a l k) ∙ e

  tree_there : {n : ℕ} → n ≤ m → {g : Grammar T P} {d a b : ℕ} {t : Shape V} → Tree L s n g d a b t
      → Tree M r n g d a b t
  tree_there h t_done = t_done
  tree_there h (t_word k i e x) = t_word k i (there k (omega (arith, i, h)) e) (tree_there h x)
  tree_there h (t_token {a = a} v k i e z) = t_token v k i (there k (omega (arith, i, h)) e)
      (w.kept a (omega (arith, i, h)) v z)
  tree_there h (t_here x) = t_here (tree_there h x)
  tree_there h (t_skip x) = t_skip (tree_there h x)
  tree_there h (t_seq x y) = t_seq (tree_there h x) (tree_there h y)
  tree_there h (t_left x) = t_left (tree_there h x)
  tree_there h (t_right x) = t_right (tree_there h x)
  tree_there h t_opt_out = t_opt_out
  tree_there h (t_opt_in x) = t_opt_in (tree_there h x)
  tree_there h t_rep_out = t_rep_out
  tree_there h (t_rep_in x y) = t_rep_in (tree_there h x) (tree_there h y)
  tree_there h (t_nearest_out {a = a} {k = k} z) = t_nearest_out
      (λ i e. z i (w.tests a (omega (arith, i, h)) k ∙ e))
  tree_there h (t_nearest_in k i e x) = t_nearest_in k i (there k (omega (arith, i, h)) e)
      (tree_there h x)
  tree_there h t_ended_out = t_ended_out
  tree_there h (t_ended_last k i e) = t_ended_last k i (there k (omega (arith, i, h)) e)
  tree_there h (t_ended_in k i e x y) = t_ended_in k i (there k (omega (arith, i, h)) e)
      (tree_there h x) (tree_there h y)
  tree_there h (t_deeper x) = t_deeper (tree_there h x)
  tree_there {n} h (t_rule {p} {d} {a} {b} {t} x) =
      t_rule (subst (λ g. Tree M r n g d a b t) (w.productions p) (tree_there h x))

  partial_there : {n : ℕ} → n ≤ m → {g : Grammar T P} {d a : ℕ} → Partial L s n g d a
      → Partial M r n g d a
  partial_there h (p_none e) = p_none e
  partial_there h (p_whole x e) = p_whole (tree_there h x) e
  partial_there h (p_word k i e x) = p_word k i (there k (omega (arith, i, h)) e)
      (partial_there h x)
  partial_there h (p_here x) = p_here (partial_there h x)
  partial_there h (p_skip x) = p_skip (partial_there h x)
  partial_there h (p_first x) = p_first (partial_there h x)
  partial_there h (p_second x y) = p_second (tree_there h x) (partial_there h y)
  partial_there h (p_left x) = p_left (partial_there h x)
  partial_there h (p_right x) = p_right (partial_there h x)
  partial_there h (p_opt x) = p_opt (partial_there h x)
  partial_there h (p_rep_first x) = p_rep_first (partial_there h x)
  partial_there h (p_rep_more x y) = p_rep_more (tree_there h x) (partial_there h y)
  partial_there h (p_nearest k i e x) = p_nearest k i (there k (omega (arith, i, h)) e)
      (partial_there h x)
  partial_there h (p_ended_first k i e x) = p_ended_first k i (there k (omega (arith, i, h)) e)
      (partial_there h x)
  partial_there h (p_ended_more k i e x y) = p_ended_more k i (there k (omega (arith, i, h)) e)
      (tree_there h x) (partial_there h y)
  partial_there h (p_deeper x) = p_deeper (partial_there h x)
  partial_there {n} h (p_rule {p} {d} {a} x) =
      p_rule (subst (λ g. Partial M r n g d a) (w.productions p) (partial_there h x))

  opens_there : {i : ℕ} → suc i ≤ m → {g : Grammar T P} {d a : ℕ} → OpensOneMore L s i g d a
      → OpensOneMore M r i g d a
  opens_there h (o_now e x) = o_now e (partial_there h x)
  opens_there h (o_word k i e x) = o_word k i (there k (omega (arith, i, h)) e) (opens_there h x)
  opens_there h (o_here x) = o_here (opens_there h x)
  opens_there h (o_skip x) = o_skip (opens_there h x)
  opens_there h (o_first x) = o_first (opens_there h x)
  opens_there h (o_second x y) = o_second (tree_there h x) (opens_there h y)
  opens_there h (o_left x) = o_left (opens_there h x)
  opens_there h (o_right x) = o_right (opens_there h x)
  opens_there h (o_opt x) = o_opt (opens_there h x)
  opens_there h (o_rep_first x) = o_rep_first (opens_there h x)
  opens_there h (o_rep_more x y) = o_rep_more (tree_there h x) (opens_there h y)
  opens_there h (o_nearest k i e x) = o_nearest k i (there k (omega (arith, i, h)) e)
      (opens_there h x)
  opens_there h (o_ended_first k i e x) = o_ended_first k i (there k (omega (arith, i, h)) e)
      (opens_there h x)
  opens_there h (o_ended_more k i e x y) = o_ended_more k i (there k (omega (arith, i, h)) e)
      (tree_there h x) (opens_there h y)
  opens_there h (o_deeper x) = o_deeper (opens_there h x)
  opens_there {i} h (o_rule {p} {d} {a} x) = o_rule (subst (λ g. OpensOneMore M r i g d a)
      (w.productions p) (opens_there h x))

  back : AreSeenAlike M L r s m
  back = record {
    productions = λ p. sym (w.productions p);
    tests = λ a l k. sym (w.tests a l k);
    kept = w.kept_back;
    kept_back = w.kept;
  }

module _ {Token V T P : Type 0} where
  fewer : (L M : Language Token V T P) (s r : List Token) (m n : ℕ) → n ≤ m → AreSeenAlike L M s r m
      → AreSeenAlike L M s r n
  fewer L M s r m n h w = record {
    productions = w.productions;
    tests = λ a l. w.tests a (omega (arith, l, h));
    kept = λ a l. w.kept a (omega (arith, l, h));
    kept_back = λ a l. w.kept_back a (omega (arith, l, h));
  }

  pub same_trees : SameTrees Token V T P
  same_trees L M g d s r t e w x = subst (λ n. Tree M r n g d 0 n t) e
      (tree_there w (omega arith) x)

  -- refused at a token, and whatever stands after it
  stays_bad : (L M : Language Token V T P) (g : Grammar T P) (d : ℕ) (s r : List Token) (i : ℕ)
      → i < length s → i < length r → AreSeenAlike L M s r (suc i) → IsFirstBadPlace L g d s i
      → IsFirstBadPlace M g d r i
  stays_bad L M g d s r i l h w x = record {
    no_tree = λ t y. x.no_more l (partial_there (back w) (omega arith)
        (fronts_of_tree M g d r t (i + 1) (omega (arith, h)) y));
    inside = omega (arith, h);
    front = partial_there w (omega arith) x.front;
    no_more = λ q y. x.no_more l (partial_there (back w) (omega arith) y);
  }

  pub refusals_stay : RefusalsStay Token V T P
  refusals_stay L M g d s r i l h w = (
    λ x. (
      stays_bad L M g d s r i l h w x.0,
      λ q levels y. x.1 l levels
          (partial_there (back w) (omega arith) y),
    ),
    λ x. (
      stays_bad L M g d s r i l h w x.0,
      h,
      partial_there w (omega arith) x.2,
      opens_there w
          (omega arith) x.3,
    ),
  )

  -- refused after the last token
  bad_at_the_end : (L M : Language Token V T P) (g : Grammar T P) (d : ℕ) (s r : List Token)
      → length s ≡ length r → AreSeenAlike L M s r (length s) → IsFirstBadPlace L g d s (length s)
      → IsFirstBadPlace M g d r (length s)
  bad_at_the_end L M g d s r e w x = record {
    no_tree = λ t y. x.no_tree t (same_trees M L g d r s t (sym e)
        (subst (λ n. AreSeenAlike M L r s n) e (back w)) y);
    inside = omega (arith, e);
    front = partial_there w (omega arith) x.front;
    no_more = λ q y. absurd (omega (arith, q, e));
  }

  pub same_causes : SameCauses Token V T P
  same_causes L M g d s r unsaid e w x = x
  same_causes L M g d s r (wrong_at i) e w x = elim (step i (length s) x.0.inside) [
    | inl l ↦ (refusals_stay L M g d s r i l (omega (arith, l, e)) (fewer L M s r (length s) (suc i)
        (omega (arith, l)) w)).0 x
    | inr q ↦ (
      subst (λ n. IsFirstBadPlace M g d r n) q (bad_at_the_end L M g d s r e w
          (subst (λ n. IsFirstBadPlace L g d s n) (sym q) x.0)),
      λ l levels y. absurd
          (omega (arith, l, e, q)),
    )
  ]
  same_causes L M g d s r (too_deep_at i) e w x =
      (refusals_stay L M g d s r i x.1 (omega (arith, x.1, e)) (fewer L M s r (length s) (suc i)
      (omega (arith, x.1)) w)).1 x
