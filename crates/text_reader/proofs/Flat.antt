-- A grammar that opens no level reads alike at all levels.
use Rattle.std.proofs.Common.{slice_get, ◌≡◌, ℕ, suc, ◌<◌, ◌≤◌, Bool, true}
use Rattle.std.proofs.Common.{false, ◌&&◌, List, length, refl, arith}
use Rattle.text_reader.specs.Grammar.{Language, Grammar, done, none, word, token, here, skip}
use Rattle.text_reader.specs.Grammar.{seq, alt, opt, rep, nearest, ended, deeper, rule, Shape}
use Rattle.text_reader.specs.Grammar.{Tree, t_done, t_word, t_token, t_here, t_skip, t_seq}
use Rattle.text_reader.specs.Grammar.{t_left, t_right, t_opt_out, t_opt_in, t_rep_out, t_rep_in}
use Rattle.text_reader.specs.Grammar.{t_nearest_out, t_nearest_in, t_ended_out, t_ended_last}
use Rattle.text_reader.specs.Grammar.{t_ended_in, t_deeper, t_rule, Partial, p_none, p_whole}
use Rattle.text_reader.specs.Grammar.{p_word, p_here, p_skip, p_first, p_second, p_left}
use Rattle.text_reader.specs.Grammar.{p_right, p_opt, p_rep_first, p_rep_more, p_nearest}
use Rattle.text_reader.specs.Grammar.{p_ended_first, p_ended_more, p_deeper, p_rule}
use Rattle.text_reader.specs.Marks.{MeetsOne, Marks, can_go_on}
use Rattle.text_reader.proofs.Members.{and_left, and_right}
use Rattle.text_reader.specs.Opening.{OpensOneMore, o_now, o_word, o_here, o_skip, o_first}
use Rattle.text_reader.specs.Opening.{o_second, o_left, o_right, o_opt, o_rep_first, o_rep_more}
use Rattle.text_reader.specs.Opening.{o_nearest, o_ended_first, o_ended_more, o_deeper, o_rule}
use Rattle.text_reader.specs.Findings.{Refused}

abbrev pub flat : {T P : Type 0} → Grammar T P → Bool
flat done = true
flat none = true
flat (word k g) = flat g
flat (token k) = true
flat (here g) = flat g
flat (skip g) = flat g
flat (seq g h) = flat g && flat h
flat (alt g h) = flat g && flat h
flat (opt g) = flat g
flat (rep g) = flat g
flat (nearest k g) = flat g
flat (ended k g) = flat g
flat (deeper g) = false
flat (rule p) = false

module _ {Token V T P : Type 0} (L : Language Token V T P) (s : List Token) where
  pub tree_any : (n e : ℕ) {g : Grammar T P} {d a b : ℕ} {t : Shape V} → flat g ≡ true
      → Tree L s n g d a b t → Tree L s n g e a b t
  tree_any n e f t_done = t_done
  tree_any n e f (t_word k l w x) = t_word k l w (tree_any n e f x)
  tree_any n e f (t_token v k l w z) = t_token v k l w z
  tree_any n e f (t_here x) = t_here (tree_any n e f x)
  tree_any n e f (t_skip x) = t_skip (tree_any n e f x)
  tree_any n e f (t_seq x y) = t_seq (tree_any n e (and_left _ _ f) x)
      (tree_any n e (and_right _ _ f) y)
  tree_any n e f (t_left x) = t_left (tree_any n e (and_left _ _ f) x)
  tree_any n e f (t_right x) = t_right (tree_any n e (and_right _ _ f) x)
  tree_any n e f t_opt_out = t_opt_out
  tree_any n e f (t_opt_in x) = t_opt_in (tree_any n e f x)
  tree_any n e f t_rep_out = t_rep_out
  tree_any n e f (t_rep_in x y) = t_rep_in (tree_any n e f x) (tree_any n e f y)
  tree_any n e f (t_nearest_out k) = t_nearest_out k
  tree_any n e f (t_nearest_in k l w x) = t_nearest_in k l w (tree_any n e f x)
  tree_any n e f t_ended_out = t_ended_out
  tree_any n e f (t_ended_last k l w) = t_ended_last k l w
  tree_any n e f (t_ended_in k l w x y) = t_ended_in k l w (tree_any n e f x) (tree_any n e f y)
  tree_any n e f (t_deeper x) = absurd cc
  tree_any n e f (t_rule x) = absurd cc

  pub partial_any : (n e : ℕ) {g : Grammar T P} {d a : ℕ} → flat g ≡ true → Partial L s n g d a
      → Partial L s n g e a
  partial_any n e f (p_none q) = p_none q
  partial_any n e f (p_whole x q) = p_whole (tree_any n e f x) q
  partial_any n e f (p_word k l w x) = p_word k l w (partial_any n e f x)
  partial_any n e f (p_here x) = p_here (partial_any n e f x)
  partial_any n e f (p_skip x) = p_skip (partial_any n e f x)
  partial_any n e f (p_first x) = p_first (partial_any n e (and_left _ _ f) x)
  partial_any n e f (p_second x y) = p_second (tree_any n e (and_left _ _ f) x)
      (partial_any n e (and_right _ _ f) y)
  partial_any n e f (p_left x) = p_left (partial_any n e (and_left _ _ f) x)
  partial_any n e f (p_right x) = p_right (partial_any n e (and_right _ _ f) x)
  partial_any n e f (p_opt x) = p_opt (partial_any n e f x)
  partial_any n e f (p_rep_first x) = p_rep_first (partial_any n e f x)
  partial_any n e f (p_rep_more x y) = p_rep_more (tree_any n e f x) (partial_any n e f y)
  partial_any n e f (p_nearest k l w x) = p_nearest k l w (partial_any n e f x)
  partial_any n e f (p_ended_first k l w x) = p_ended_first k l w (partial_any n e f x)
  partial_any n e f (p_ended_more k l w x y) = p_ended_more k l w (tree_any n e f x)
      (partial_any n e f y)
  partial_any n e f (p_deeper x) = absurd cc
  partial_any n e f (p_rule x) = absurd cc

  -- no token opens a level too many
  pub flat_opens_none : (i : ℕ) {g : Grammar T P} {d a : ℕ} → flat g ≡ true
      → OpensOneMore L s i g d a → ⊥
  flat_opens_none i f (o_now e x) = cc
  flat_opens_none i f (o_word k l e x) = flat_opens_none i f x
  flat_opens_none i f (o_here x) = flat_opens_none i f x
  flat_opens_none i f (o_skip x) = flat_opens_none i f x
  flat_opens_none i f (o_first x) = flat_opens_none i (and_left _ _ f) x
  flat_opens_none i f (o_second x y) = flat_opens_none i (and_right _ _ f) y
  flat_opens_none i f (o_left x) = flat_opens_none i (and_left _ _ f) x
  flat_opens_none i f (o_right x) = flat_opens_none i (and_right _ _ f) x
  flat_opens_none i f (o_opt x) = flat_opens_none i f x
  flat_opens_none i f (o_rep_first x) = flat_opens_none i f x
  flat_opens_none i f (o_rep_more x y) = flat_opens_none i f y
  flat_opens_none i f (o_nearest k l e x) = flat_opens_none i f x
  flat_opens_none i f (o_ended_first k l e x) = flat_opens_none i f x
  flat_opens_none i f (o_ended_more k l e x y) = flat_opens_none i f y
  flat_opens_none i f (o_deeper x) = cc
  flat_opens_none i f (o_rule x) = cc

-- no level is left for what this token would begin
pub too_deep_any : {Token V T P : Type 0} {L : Language Token V T P} {S : Marks T P}
    {s : List Token} {g : Grammar T P} {a : ℕ} → a < length s → Partial L s (suc a) g 0 a
    → Refused L S s (deeper g) 0 a a true
too_deep_any {L = L} {S = S} {s = s} {g = g} {a = a} l x = record {
  partial = p_none refl;
  inside = omega arith;
  only = only;
  most = most;
  more = λ z. (l, o_now refl x);
}
  where
    only : (e n c : ℕ) (u : Shape _) → e ≤ 0 → a ≤ n → n ≤ length s → Tree L s n (deeper g) e a c u
        → (c ≤ a) × (c < n → MeetsOne L.holds (slice_get s c) (can_go_on S (deeper g)))
        × (c < length s)
    only _ n c u z l m (t_deeper x) = absurd (omega arith)

    most : (e n : ℕ) → e ≤ 0 → a ≤ n → n ≤ length s → Partial L s n (deeper g) e a → n ≤ a
    most e n z l m (p_none q) = omega arith
    most e n z l m (p_whole x q) = omega (arith, (only e n _ _ z l m x).0)
    most _ n z l m (p_deeper x) = absurd (omega arith)
