-- What has a tree by a plain grammar has the same tree by the whole one.
use Rattle.std.proofs.Common.{◌≡◌, ℕ, Bool, true, false, ◌&&◌, List}
use Rattle.std.proofs.lemmas.Bool.{and_parts}
use Rattle.text_reader.specs.Grammar.{Grammar, Shape, done, none, word, token, here, skip, seq}
use Rattle.text_reader.specs.Grammar.{alt, opt, rep, nearest, ended, deeper, rule, Tree, t_done}
use Rattle.text_reader.specs.Grammar.{t_word, t_token, t_here, t_skip, t_seq, t_left, t_right}
use Rattle.text_reader.specs.Grammar.{t_opt_out, t_opt_in, t_rep_out, t_rep_in, t_nearest_out}
use Rattle.text_reader.specs.Grammar.{t_nearest_in, t_ended_out, t_ended_in, t_ended_last}
use Rattle.text_reader.specs.Grammar.{t_deeper, t_rule}
use Rattle.text_reader.specs.Grammar.{nothing}
use Rattle.est_lexer.specs.declared.kind.Token.{Token}
use Rattle.text_reader.specs.Tests.{Test, Kept, language}
use Rattle.text_printer.specs.PlainGrammar.{plainly}

-- whether what a plain grammar leaves out may be left out
abbrev pub can_skip : {P : Type 0} → Grammar Test P → Bool
can_skip done = true
can_skip none = true
can_skip (word k g) = can_skip g
can_skip (token k) = true
can_skip (here g) = can_skip g
can_skip (skip (opt g)) = true
can_skip (skip _) = false
can_skip (seq g h) = can_skip g && can_skip h
can_skip (alt g h) = can_skip g && can_skip h
can_skip (opt g) = can_skip g
can_skip (rep g) = can_skip g
can_skip (nearest k g) = can_skip g
can_skip (ended k g) = can_skip g
can_skip (deeper g) = can_skip g
can_skip (rule p) = true

-- a grammar, and the plain one
data PlainOf {P : Type 0} : Grammar Test P → Grammar Test P → Type 0 where
  n_done : PlainOf done done
  n_none : PlainOf none none
  n_word : {g h : Grammar Test P} (k : Test) → PlainOf g h → PlainOf (word k g) (word k h)
  n_token : (k : Test) → PlainOf (token k) (token k)
  n_here : {g h : Grammar Test P} → PlainOf g h → PlainOf (here g) (here h)
  n_skip : {g : Grammar Test P} → PlainOf (skip (opt g)) (skip done)
  n_seq : {g h i j : Grammar Test P} → PlainOf g h → PlainOf i j → PlainOf (seq g i) (seq h j)
  n_alt : {g h i j : Grammar Test P} → PlainOf g h → PlainOf i j → PlainOf (alt g i) (alt h j)
  n_opt : {g h : Grammar Test P} → PlainOf g h → PlainOf (opt g) (opt h)
  n_rep : {g h : Grammar Test P} → PlainOf g h → PlainOf (rep g) (rep h)
  n_nearest : {g h : Grammar Test P} (k : Test) → PlainOf g h → PlainOf (nearest k g) (nearest k h)
  n_ended : {g h : Grammar Test P} (k : Test) → PlainOf g h → PlainOf (ended k g) (rep (word k h))
  n_deeper : {g h : Grammar Test P} → PlainOf g h → PlainOf (deeper g) (deeper h)
  n_rule : (p : P) → PlainOf (rule p) (rule p)

plain_of : {P : Type 0} (g : Grammar Test P) → can_skip g ≡ true → PlainOf g (plainly g)
plain_of done c = n_done
plain_of none c = n_none
plain_of (word k g) c = n_word k (plain_of g c)
plain_of (token k) c = n_token k
plain_of (here g) c = n_here (plain_of g c)
plain_of (skip (opt g)) c = n_skip
plain_of (skip g) c = absurd cc
plain_of (seq g h) c =
    let p = and_parts _ _ c in
    n_seq (plain_of g p.0) (plain_of h p.1)
plain_of (alt g h) c =
    let p = and_parts _ _ c in
    n_alt (plain_of g p.0) (plain_of h p.1)
plain_of (opt g) c = n_opt (plain_of g c)
plain_of (rep g) c = n_rep (plain_of g c)
plain_of (nearest k g) c = n_nearest k (plain_of g c)
plain_of (ended k g) c = n_ended k (plain_of g c)
plain_of (deeper g) c = n_deeper (plain_of g c)
plain_of (rule p) c = n_rule p

module _ {P : Type 0} (production : P → Grammar Test P)
    (all : (p : P) → can_skip (production p) ≡ true) (text : List ℕ) (s : List Token) (n : ℕ) where
  skipped : {g : Grammar Test P} {d a b : ℕ} {t : Shape Kept}
      → Tree (language (λ p. plainly (production p)) text) s n done d a b t
      → Tree (language production text) s n (skip (opt g)) d a b nothing
  skipped t_done = t_skip t_opt_out

  widened : {h : Grammar Test P} {d a b : ℕ} {t : Shape Kept}
      → Tree (language (λ p. plainly (production p)) text) s n h d a b t → {g : Grammar Test P}
      → PlainOf g h → Tree (language production text) s n g d a b t
  widened t_done n_done = t_done
  widened (t_word k i e x) (n_word _ q) = t_word k i e (widened x q)
  widened (t_token v k i e z) (n_token _) = t_token v k i e z
  widened (t_here x) (n_here q) = t_here (widened x q)
  widened (t_skip x) n_skip = skipped x
  widened (t_seq x y) (n_seq q r) = t_seq (widened x q) (widened y r)
  widened (t_left x) (n_alt q r) = t_left (widened x q)
  widened (t_right x) (n_alt q r) = t_right (widened x r)
  widened t_opt_out (n_opt q) = t_opt_out
  widened (t_opt_in x) (n_opt q) = t_opt_in (widened x q)
  widened t_rep_out (n_rep q) = t_rep_out
  widened (t_rep_in x y) (n_rep q) = t_rep_in (widened x q) (widened y (n_rep q))
  widened t_rep_out (n_ended k q) = t_ended_out
  widened (t_rep_in (t_word _ i e x) y) (n_ended k q) =
      t_ended_in k i e (widened x q) (widened y (n_ended k q))
  widened (t_nearest_out z) (n_nearest k q) = t_nearest_out z
  widened (t_nearest_in _ i e x) (n_nearest k q) = t_nearest_in k i e (widened x q)
  widened t_ended_out q = elim q [ ]
  widened (t_ended_last k i e) q = elim q [ ]
  widened (t_ended_in k i e x y) q = elim q [ ]
  widened (t_deeper x) (n_deeper q) = t_deeper (widened x q)
  widened (t_rule x) (n_rule p) = t_rule (widened x (plain_of (production p) (all p)))

  pub widen : (g : Grammar Test P) → can_skip g ≡ true → (d a b : ℕ) (t : Shape Kept)
      → Tree (language (λ p. plainly (production p)) text) s n (plainly g) d a b t
      → Tree (language production text) s n g d a b t
  widen g c d a b t x = widened x (plain_of g c)
