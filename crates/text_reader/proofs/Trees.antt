-- Trees and partial trees of any grammar: where they lie, and how they begin.
use Rattle.std.proofs.Common.{slice_get, Option, ◌≡◌, ℕ, suc, ◌<◌, ◌≤◌, Bool, true, false, cond}
use Rattle.std.proofs.Common.{not, ◌&&◌, ◌||◌, ◌⊎◌, inl, inr, List, [], refl, sym, subst, arith}
use Rattle.text_reader.specs.Grammar.{Language, Grammar, seq, Shape, Tree, t_done, t_word}
use Rattle.text_reader.specs.Grammar.{t_token, t_here, t_skip, t_seq, t_left, t_right, t_opt_out}
use Rattle.text_reader.specs.Grammar.{t_opt_in, t_rep_out, t_rep_in, t_nearest_out, t_nearest_in}
use Rattle.text_reader.specs.Grammar.{t_ended_out, t_ended_last, t_ended_in, t_deeper, t_rule}
use Rattle.text_reader.specs.Grammar.{Partial, p_none, p_whole, p_word, p_here, p_skip, p_first}
use Rattle.text_reader.specs.Grammar.{p_second, p_left, p_right, p_opt, p_rep_first, p_rep_more}
use Rattle.text_reader.specs.Grammar.{p_nearest, p_ended_first, p_ended_more, p_deeper, p_rule}
use Rattle.text_reader.specs.Marks.{MeetsOne, Marks, can_be_empty, can_begin, Fits}
use Rattle.text_reader.proofs.Members.{In-left, In-right}

both_false : (a b : Bool) → (a || b) ≡ false → (a ≡ false) × (b ≡ false)
both_false true b e = absurd cc
both_false false b e = (refl, e)

one_false : (a b : Bool) → (a && b) ≡ false → (a ≡ false) ⊎ (b ≡ false)
one_false true b e = inr e
one_false false b e = inl refl

implied : (a b : Bool) → (not a || b) ≡ true → b ≡ false → a ≡ false
implied true b e f = cc
implied false b e f = refl

-- a boolean is true or false
pub cases : (a : Bool) → (a ≡ true) ⊎ (a ≡ false)
cases true = inl refl
cases false = inr refl

-- a number up to another lies below it, or is the other
pub step : (a b : ℕ) → a ≤ b → (a < b) ⊎ (b ≡ a)
step a b h = grind arith

module _ {Token V T P : Type 0} (L : Language Token V T P) (s : List Token) where
  pub tree_forward : (n : ℕ) {g : Grammar T P} {d a b : ℕ} {t : Shape V} → Tree L s n g d a b t
      → a ≤ b
  tree_forward n t_done = omega arith
  tree_forward n (t_word k l e x) = omega (arith, tree_forward n x)
  tree_forward n (t_token v k l e z) = omega arith
  tree_forward n (t_here x) = tree_forward n x
  tree_forward n (t_skip x) = tree_forward n x
  tree_forward n (t_seq x y) = omega (arith, tree_forward n x, tree_forward n y)
  tree_forward n (t_left x) = tree_forward n x
  tree_forward n (t_right x) = tree_forward n x
  tree_forward n t_opt_out = omega arith
  tree_forward n (t_opt_in x) = tree_forward n x
  tree_forward n t_rep_out = omega arith
  tree_forward n (t_rep_in x y) = omega (arith, tree_forward n x, tree_forward n y)
  tree_forward n (t_nearest_out h) = omega arith
  tree_forward n (t_nearest_in k l e x) = omega (arith, tree_forward n x)
  tree_forward n t_ended_out = omega arith
  tree_forward n (t_ended_last k l e) = omega arith
  tree_forward n (t_ended_in k l e x y) = omega (arith, tree_forward n x, tree_forward n y)
  tree_forward n (t_deeper x) = tree_forward n x
  tree_forward n (t_rule x) = tree_forward n x

  -- a tree of some of the first n tokens ends among them
  pub tree_inside : (n : ℕ) {g : Grammar T P} {d a b : ℕ} {t : Shape V} → Tree L s n g d a b t
      → a ≤ n → b ≤ n
  tree_inside n t_done h = h
  tree_inside n (t_word k l e x) h = tree_inside n x (omega arith)
  tree_inside n (t_token v k l e z) h = omega arith
  tree_inside n (t_here x) h = tree_inside n x h
  tree_inside n (t_skip x) h = tree_inside n x h
  tree_inside n (t_seq x y) h = tree_inside n y (tree_inside n x h)
  tree_inside n (t_left x) h = tree_inside n x h
  tree_inside n (t_right x) h = tree_inside n x h
  tree_inside n t_opt_out h = h
  tree_inside n (t_opt_in x) h = tree_inside n x h
  tree_inside n t_rep_out h = h
  tree_inside n (t_rep_in x y) h = tree_inside n y (tree_inside n x h)
  tree_inside n (t_nearest_out k) h = h
  tree_inside n (t_nearest_in k l e x) h = tree_inside n x (omega arith)
  tree_inside n t_ended_out h = h
  tree_inside n (t_ended_last k l e) h = omega arith
  tree_inside n (t_ended_in k l e x y) h = tree_inside n y (tree_inside n x (omega arith))
  tree_inside n (t_deeper x) h = tree_inside n x h
  tree_inside n (t_rule x) h = tree_inside n x h

  -- a tree of the first n tokens is one of the first m, where it ends among these
  pub tree_of_fewer : (n m : ℕ) {g : Grammar T P} {d a b : ℕ} {t : Shape V} → Tree L s n g d a b t
      → b ≤ m → m ≤ n → Tree L s m g d a b t
  tree_of_fewer n m t_done h w = t_done
  tree_of_fewer n m (t_word k l e x) h w = t_word k (omega (arith, tree_forward n x)) e
      (tree_of_fewer n m x h w)
  tree_of_fewer n m (t_token v k l e z) h w = t_token v k (omega arith) e z
  tree_of_fewer n m (t_here x) h w = t_here (tree_of_fewer n m x h w)
  tree_of_fewer n m (t_skip x) h w = t_skip (tree_of_fewer n m x h w)
  tree_of_fewer n m (t_seq x y) h w = t_seq (tree_of_fewer n m x (omega (arith, tree_forward n y))
      w) (tree_of_fewer n m y h w)
  tree_of_fewer n m (t_left x) h w = t_left (tree_of_fewer n m x h w)
  tree_of_fewer n m (t_right x) h w = t_right (tree_of_fewer n m x h w)
  tree_of_fewer n m t_opt_out h w = t_opt_out
  tree_of_fewer n m (t_opt_in x) h w = t_opt_in (tree_of_fewer n m x h w)
  tree_of_fewer n m t_rep_out h w = t_rep_out
  tree_of_fewer n m (t_rep_in x y) h w =
      t_rep_in (tree_of_fewer n m x (omega (arith, tree_forward n y)) w) (tree_of_fewer n m y h w)
  tree_of_fewer n m (t_nearest_out k) h w = t_nearest_out (λ l. k (omega arith))
  tree_of_fewer n m (t_nearest_in k l e x) h w = t_nearest_in k (omega (arith, tree_forward n x)) e
      (tree_of_fewer n m x h w)
  tree_of_fewer n m t_ended_out h w = t_ended_out
  tree_of_fewer n m (t_ended_last k l e) h w = t_ended_last k (omega arith) e
  tree_of_fewer n m (t_ended_in k l e x y) h w =
      t_ended_in k (omega (arith, tree_forward n x, tree_forward n y)) e
      (tree_of_fewer n m x (omega (arith, tree_forward n y)) w) (tree_of_fewer n m y h w)
  tree_of_fewer n m (t_deeper x) h w = t_deeper (tree_of_fewer n m x h w)
  tree_of_fewer n m (t_rule x) h w = t_rule (tree_of_fewer n m x h w)

  -- one more level does no harm
  pub tree_deeper : (n : ℕ) {g : Grammar T P} {d a b : ℕ} {t : Shape V} → Tree L s n g d a b t
      → Tree L s n g (suc d) a b t
  tree_deeper n t_done = t_done
  tree_deeper n (t_word k l e x) = t_word k l e (tree_deeper n x)
  tree_deeper n (t_token v k l e z) = t_token v k l e z
  tree_deeper n (t_here x) = t_here (tree_deeper n x)
  tree_deeper n (t_skip x) = t_skip (tree_deeper n x)
  tree_deeper n (t_seq x y) = t_seq (tree_deeper n x) (tree_deeper n y)
  tree_deeper n (t_left x) = t_left (tree_deeper n x)
  tree_deeper n (t_right x) = t_right (tree_deeper n x)
  tree_deeper n t_opt_out = t_opt_out
  tree_deeper n (t_opt_in x) = t_opt_in (tree_deeper n x)
  tree_deeper n t_rep_out = t_rep_out
  tree_deeper n (t_rep_in x y) = t_rep_in (tree_deeper n x) (tree_deeper n y)
  tree_deeper n (t_nearest_out k) = t_nearest_out k
  tree_deeper n (t_nearest_in k l e x) = t_nearest_in k l e (tree_deeper n x)
  tree_deeper n t_ended_out = t_ended_out
  tree_deeper n (t_ended_last k l e) = t_ended_last k l e
  tree_deeper n (t_ended_in k l e x y) = t_ended_in k l e (tree_deeper n x) (tree_deeper n y)
  tree_deeper n (t_deeper x) = t_deeper (tree_deeper n x)
  tree_deeper n (t_rule x) = t_rule (tree_deeper n x)

  pub partial_forward : (n : ℕ) {g : Grammar T P} {d a : ℕ} → Partial L s n g d a → a ≤ n
  partial_forward n (p_none e) = omega arith
  partial_forward n (p_whole x e) = omega (arith, tree_forward n x)
  partial_forward n (p_word k l e x) = omega (arith, partial_forward n x)
  partial_forward n (p_here x) = partial_forward n x
  partial_forward n (p_skip x) = partial_forward n x
  partial_forward n (p_first x) = partial_forward n x
  partial_forward n (p_second x y) = omega (arith, tree_forward n x, partial_forward n y)
  partial_forward n (p_left x) = partial_forward n x
  partial_forward n (p_right x) = partial_forward n x
  partial_forward n (p_opt x) = partial_forward n x
  partial_forward n (p_rep_first x) = partial_forward n x
  partial_forward n (p_rep_more x y) = omega (arith, tree_forward n x, partial_forward n y)
  partial_forward n (p_nearest k l e x) = omega arith
  partial_forward n (p_ended_first k l e x) = omega arith
  partial_forward n (p_ended_more k l e x y) = omega arith
  partial_forward n (p_deeper x) = partial_forward n x
  partial_forward n (p_rule x) = partial_forward n x

  module _ (S : Marks T P) (fits : Fits L S) where
    -- what cannot be empty takes a token
    pub tree_moves : (n : ℕ) {g : Grammar T P} {d a b : ℕ} {t : Shape V} → Tree L s n g d a b t
        → can_be_empty S g ≡ false → a < b
    tree_moves n t_done q = absurd cc
    tree_moves n (t_word k l e x) q = omega (arith, tree_forward n x)
    tree_moves n (t_token v k l e z) q = omega arith
    tree_moves n (t_here x) q = tree_moves n x q
    tree_moves n (t_skip x) q = tree_moves n x q
    tree_moves n (t_seq x y) q = elim (one_false _ _ q) [
      | inl f ↦ let l = tree_moves n x f in omega (arith, tree_forward n y)
      | inr f ↦ let l = tree_moves n y f in omega (arith, tree_forward n x)
    ]
    tree_moves n (t_left x) q = tree_moves n x ((both_false _ _ q).0)
    tree_moves n (t_right x) q = tree_moves n x ((both_false _ _ q).1)
    tree_moves n t_opt_out q = absurd cc
    tree_moves n (t_opt_in x) q = absurd cc
    tree_moves n t_rep_out q = absurd cc
    tree_moves n (t_rep_in x y) q = absurd cc
    tree_moves n (t_nearest_out h) q = absurd cc
    tree_moves n (t_nearest_in k l e x) q = absurd cc
    tree_moves n t_ended_out q = absurd cc
    tree_moves n (t_ended_last k l e) q = absurd cc
    tree_moves n (t_ended_in k l e x y) q = absurd cc
    tree_moves n (t_deeper x) q = tree_moves n x q
    tree_moves n (t_rule {p} x) q = tree_moves n x (implied _ _ (fits.is_empty p) q)

    -- a part of a sequence that takes no token leaves the beginning to the next
    next_first : (g h : Grammar T P) (o : Option Token) → can_be_empty S g ≡ true
        → MeetsOne L.holds o (can_begin S h) → MeetsOne L.holds o (can_begin S (seq g h))
    next_first g h o e i = In-right L.holds o (can_begin S g) _
        (subst (λ v. MeetsOne L.holds o (cond v (can_begin S h) [])) (sym e) i)

    -- a tree that takes a token begins with a token that can begin it
    pub tree_starts : (n : ℕ) {g : Grammar T P} {d a b : ℕ} {t : Shape V} → Tree L s n g d a b t
        → a < b → MeetsOne L.holds (slice_get s a) (can_begin S g)
    tree_starts n t_done q = absurd (omega arith)
    tree_starts n (t_word k l e x) q = inl e
    tree_starts n (t_token v k l e z) q = inl e
    tree_starts n (t_here x) q = tree_starts n x q
    tree_starts n (t_skip x) q = tree_starts n x q
    tree_starts n (t_seq {g} {h} {a = a} {b = b} x y) q =
        elim (step a b (tree_forward n x)) [
          | inl l ↦ In-left L.holds (slice_get s a) (can_begin S g) _ (tree_starts n x l)
          | inr e ↦ elim (cases (can_be_empty S g)) [
            | inl f ↦ next_first g h (slice_get s a) f
                (subst (λ v. MeetsOne L.holds (slice_get s v) (can_begin S h)) e
                (tree_starts n y (omega (arith, e, q))))
            | inr f ↦ absurd (omega (arith, e, tree_moves n x f))
          ]
        ]
    tree_starts n (t_left {g} {h} x) q = In-left L.holds _ (can_begin S g) (can_begin S h)
        (tree_starts n x q)
    tree_starts n (t_right {g} {h} x) q = In-right L.holds _ (can_begin S g) (can_begin S h)
        (tree_starts n x q)
    tree_starts n t_opt_out q = absurd (omega arith)
    tree_starts n (t_opt_in x) q = tree_starts n x q
    tree_starts n t_rep_out q = absurd (omega arith)
    tree_starts n (t_rep_in {g} {a = a} {b = b} x y) q =
        elim (step a b (tree_forward n x)) [
          | inl l ↦ tree_starts n x l
          | inr e ↦ subst (λ v. MeetsOne L.holds (slice_get s v) (can_begin S g)) e
              (tree_starts n y (omega (arith, e, q)))
        ]
    tree_starts n (t_nearest_out h) q = absurd (omega arith)
    tree_starts n (t_nearest_in k l e x) q = inl e
    tree_starts n t_ended_out q = absurd (omega arith)
    tree_starts n (t_ended_last k l e) q = inl e
    tree_starts n (t_ended_in k l e x y) q = inl e
    tree_starts n (t_deeper x) q = tree_starts n x q
    tree_starts n (t_rule {p} x) q = fits.starts p _ (tree_starts n x q)

    -- so does a partial tree
    pub partial_starts : (n : ℕ) {g : Grammar T P} {d a : ℕ} → Partial L s n g d a → a < n
        → MeetsOne L.holds (slice_get s a) (can_begin S g)
    partial_starts n (p_none e) q = absurd (omega arith)
    partial_starts n (p_whole x e) q = tree_starts n x (omega arith)
    partial_starts n (p_word k l e x) q = inl e
    partial_starts n (p_here x) q = partial_starts n x q
    partial_starts n (p_skip x) q = partial_starts n x q
    partial_starts n (p_first {g} {h} x) q = In-left L.holds _ (can_begin S g) _
        (partial_starts n x q)
    partial_starts n (p_second {g} {h} {a = a} {b = b} x y) q =
        elim (step a b (tree_forward n x)) [
          | inl l ↦ In-left L.holds (slice_get s a) (can_begin S g) _ (tree_starts n x l)
          | inr e ↦ elim (cases (can_be_empty S g)) [
            | inl f ↦ next_first g h (slice_get s a) f
                (subst (λ v. MeetsOne L.holds (slice_get s v) (can_begin S h)) e
                (partial_starts n y (omega (arith, e, q))))
            | inr f ↦ absurd (omega (arith, e, tree_moves n x f))
          ]
        ]
    partial_starts n (p_left {g} {h} x) q = In-left L.holds _ (can_begin S g) (can_begin S h)
        (partial_starts n x q)
    partial_starts n (p_right {g} {h} x) q = In-right L.holds _ (can_begin S g) (can_begin S h)
        (partial_starts n x q)
    partial_starts n (p_opt x) q = partial_starts n x q
    partial_starts n (p_rep_first x) q = partial_starts n x q
    partial_starts n (p_rep_more {g} {a = a} {b = b} x y) q =
        elim (step a b (tree_forward n x)) [
          | inl l ↦ tree_starts n x l
          | inr e ↦ subst (λ v. MeetsOne L.holds (slice_get s v) (can_begin S g)) e
              (partial_starts n y (omega (arith, e, q)))
        ]
    partial_starts n (p_nearest k l e x) q = inl e
    partial_starts n (p_ended_first k l e x) q = inl e
    partial_starts n (p_ended_more k l e x y) q = inl e
    partial_starts n (p_deeper x) q = partial_starts n x q
    partial_starts n (p_rule {p} x) q = fits.starts p _ (partial_starts n x q)
