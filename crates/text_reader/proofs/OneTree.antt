-- A grammar of which one token decides each choice gives a list of tokens no second tree.
use Rattle.std.proofs.Common.{slice_get, ◌≡◌, ℕ, ◌<◌, Bool, true, false, not, ◌&&◌, cond, inl}
use Rattle.std.proofs.Common.{inr, List, [], ◌∷◌, length, refl, sym, ◌∙◌, ap, subst, arith}
use Rattle.text_reader.specs.Grammar.{Language, Grammar, done, none, word, token, here, skip, seq}
use Rattle.text_reader.specs.Grammar.{alt, opt, rep, nearest, ended, deeper, rule, Shape, nothing}
use Rattle.text_reader.specs.Grammar.{leaf, placed, both, left, right, some, Tree, t_done, t_word}
use Rattle.text_reader.specs.Grammar.{t_token, t_here, t_skip, t_seq, t_left, t_right, t_opt_out}
use Rattle.text_reader.specs.Grammar.{t_opt_in, t_rep_out, t_rep_in, t_nearest_out, t_nearest_in}
use Rattle.text_reader.specs.Grammar.{t_ended_out, t_ended_last, t_ended_in, t_deeper, t_rule}
use Rattle.text_reader.specs.Marks.{MeetsOne, Apart, Within, Marks, can_be_empty}
use Rattle.text_reader.specs.Marks.{can_begin, can_go_on, Fits, disjoint}
use Rattle.text_reader.specs.Lookahead.{OneTokenDecides}
use Rattle.text_reader.specs.TreeLaws.{AtMostOneTree}
use Rattle.text_reader.proofs.Members.{In-left, In-right, and_left, and_right, clear}
use Rattle.text_reader.proofs.Parts.{kept_once}
use Rattle.text_reader.proofs.Trees
use Rattle.text_reader.proofs.Trees.{cases, step}

-- Two trees from one place are the same, or one ends first and the token after it can go on.
pub data Agree {Token V T P : Type 0} (L : Language Token V T P) (S : Marks T P) (s : List Token)
    (g : Grammar T P) (b : ℕ) (t : Shape V) (c : ℕ) (u : Shape V) : Type 0 where
  same : b ≡ c → t ≡ u → Agree L S s g b t c u
  first : b < c → MeetsOne L.holds (slice_get s b) (can_go_on S g) → Agree L S s g b t c u
  second : c < b → MeetsOne L.holds (slice_get s c) (can_go_on S g) → Agree L S s g b t c u

module _ {Token V T P : Type 0} (L : Language Token V T P) (S : Marks T P) (fits : Fits L S)
    (s : List Token) (n : ℕ) where
  turn : {g : Grammar T P} {b c : ℕ} {t u : Shape V} → Agree L S s g b t c u → Agree L S s g c u b t
  turn (same p q) = same (sym p) (sym q)
  turn (first l w) = second l w
  turn (second l w) = first l w

  -- what agrees as a part agrees in the whole
  wrapped : {g h : Grammar T P} {b c : ℕ} {t u : Shape V} (f : Shape V → Shape V)
      → Within L (can_go_on S g) (can_go_on S h) → Agree L S s g b t c u
      → Agree L S s h b (f t) c (f u)
  wrapped f i (same p q) = same p (ap f q)
  wrapped f i (first l w) = first l (i _ w)
  wrapped f i (second l w) = second l (i _ w)

  -- where a token goes on after g, a tree of what is apart takes no token
  stops : (g h : Grammar T P) {e m c : ℕ} {u : Shape V} → Apart L (can_go_on S g) (can_begin S h)
      → MeetsOne L.holds (slice_get s m) (can_go_on S g) → Tree L s n h e m c u → c ≡ m
  stops g h {e} {m} {c} {u} j w x = elim (step m c (Trees.tree_forward L s n x)) [
    | inl r ↦ absurd (j.none_meets (slice_get s m) w (Trees.tree_starts L s S fits n x r))
    | inr r ↦ r
  ]

  -- the first part of one tree ends before that of the other
  seq_first : (g h : Grammar T P) {d e b b' c c' : ℕ} {u u' v v' : Shape V}
      → Apart L (can_go_on S g) (can_begin S h) → b < b'
      → MeetsOne L.holds (slice_get s b) (can_go_on S g) → Tree L s n h d b c u
      → Tree L s n h e b' c' u' → Agree L S s (seq g h) c v c' v'
  seq_first g h {b = b} j l w y y' =
      let k = stops g h j w y in
      first (omega (arith, k, l, Trees.tree_forward L s n y'))
      (subst (λ o. MeetsOne L.holds (slice_get s o) (can_go_on S (seq g h))) (sym k)
      (In-right L.holds (slice_get s b) (can_go_on S h) _ (elim (cases (can_be_empty S h)) [
        | inl f ↦ subst (λ v. MeetsOne L.holds (slice_get s b) (cond v (can_go_on S g) [])) (sym f)
            w
        | inr f ↦ absurd (omega (arith, k, Trees.tree_moves L s S fits n y f))
      ])))

  rep_first : (g : Grammar T P) {d e b b' c c' : ℕ} {u u' v v' : Shape V}
      → Apart L (can_go_on S g) (can_begin S g) → b < b'
      → MeetsOne L.holds (slice_get s b) (can_go_on S g) → Tree L s n (rep g) d b c u
      → Tree L s n (rep g) e b' c' u' → Agree L S s (rep g) c v c' v'
  rep_first g {b = b} j l w y y' =
      let k = stops g (rep g) j w y in
      first (omega (arith, k, l, Trees.tree_forward L s n y'))
      (subst (λ o. MeetsOne L.holds (slice_get s o) (can_go_on S (rep g))) (sym k)
      (In-right L.holds (slice_get s b) (can_begin S g) _ w))

  ended_first : (k : T) (g : Grammar T P) {d e b b' c c' : ℕ} {u u' v v' : Shape V}
      → Apart L (can_go_on S g) (k ∷ []) → b < b' → MeetsOne L.holds (slice_get s b) (can_go_on S g)
      → Tree L s n (ended k g) d b c u → Tree L s n (ended k g) e b' c' u'
      → Agree L S s (ended k g) c v c' v'
  ended_first k g {b = b} j l w y y' =
      let q = stops g (ended k g) j w y in
      first (omega (arith, q, l, Trees.tree_forward L s n y'))
      (subst (λ o. MeetsOne L.holds (slice_get s o) (can_go_on S (ended k g))) (sym q)
      (inr (In-right L.holds (slice_get s b) (can_begin S g) _ w)))

  -- a tree of what cannot be empty goes on from its place with a token that begins it
  begins : {g : Grammar T P} {d a b : ℕ} {t : Shape V} → can_be_empty S g ≡ false
      → Tree L s n g d a b t → (a < b) × MeetsOne L.holds (slice_get s a) (can_begin S g)
  begins f x = let l = Trees.tree_moves L s S fits n x f in (l, Trees.tree_starts L s S fits n x l)

  -- a part is left out in the one tree, and stands in the other
  opt_first : (g : Grammar T P) {d a b : ℕ} {t v v' : Shape V} → can_be_empty S g ≡ false
      → Tree L s n g d a b t → Agree L S s (opt g) a v b v'
  opt_first g {a = a} f x = let o = begins f x in first o.0 (In-left L.holds (slice_get s a)
      (can_begin S g) _ o.1)

  rep_out_first : (g : Grammar T P) {d a b c : ℕ} {t u v v' : Shape V} → can_be_empty S g ≡ false
      → Tree L s n g d a b t → Tree L s n (rep g) d b c u → Agree L S s (rep g) a v c v'
  rep_out_first g {a = a} f x y = let o = begins f x in first
      (omega (arith, o.0, Trees.tree_forward L s n y)) (In-left L.holds (slice_get s a)
      (can_begin S g) _ o.1)

  ended_last_first : (k : T) (g : Grammar T P) {d a b c : ℕ} {t u v v' : Shape V}
      → can_be_empty S g ≡ false → Tree L s n g d a b t → Tree L s n (ended k g) d b c u
      → Agree L S s (ended k g) a v c v'
  ended_last_first k g {a = a} f x y = let o = begins f x in first
      (omega (arith, o.0, Trees.tree_forward L s n y))
      (inr (In-left L.holds (slice_get s a) (can_begin S g) _ o.1))

  -- the two alternatives do not begin alike
  alt_apart : (g h : Grammar T P) {d e a b c : ℕ} {t u : Shape V}
      → Apart L (can_begin S g) (can_begin S h) → can_be_empty S g ≡ false
      → can_be_empty S h ≡ false → Tree L s n g d a b t → Tree L s n h e a c u → ⊥
  alt_apart g h {a = a} j f f' x y = j.none_meets (slice_get s a) (begins f x).1 (begins f' y).1

  both_same : {t t' u u' : Shape V} → t ≡ t' → u ≡ u' → both t u ≡ both t' u'
  both_same {t} {t'} {u} {u'} p q = ap (λ o. both o u) p ∙ ap (both t') q

  -- the parts after agree, and the first are the same
  behind : {g h : Grammar T P} {c c' : ℕ} {t t' u u' : Shape V}
      → Within L (can_go_on S g) (can_go_on S h) → t ≡ t' → Agree L S s g c u c' u'
      → Agree L S s h c (both t u) c' (both t' u')
  behind i e (same p q) = same p (both_same e q)
  behind i e (first l w) = first l (i _ w)
  behind i e (second l w) = second l (i _ w)

  module _ (productions : (p : P) → OneTokenDecides L S (L.production p)) where
    pub agree : {g : Grammar T P} {d e a b c : ℕ} {t u : Shape V} → OneTokenDecides L S g
        → Tree L s n g d a b t → Tree L s n g e a c u → Agree L S s g b t c u
    agree o t_done t_done = same refl refl
    agree o (t_word k l w x) (t_word k' l' w' x') = wrapped (λ v. v) (λ _ m. m) (agree o x x')
    agree o (t_token {a = a} v k l w z) (t_token v' k' l' w' z') =
        same refl (ap leaf (kept_once L s a v' v z' z))
    agree o (t_here {a = a} x) (t_here x') = wrapped (placed a) (λ _ m. m) (agree o x x')
    agree o (t_skip x) (t_skip x') = wrapped (λ v. nothing) (λ _ m. m) (agree o x x')
    agree o (t_seq {g} {h} {b = b} {c = c} {t = t} {u = u} x y) (t_seq {d = e} {b = b'} {c = c'}
        {t = t'} {u = u'} x' y') = elim (agree o.0 x x') [
          | same p q ↦ behind (λ v m. In-left L.holds v (can_go_on S h) _ m) q
              (agree o.1 y (subst (λ v. Tree L s n h e v c' u') (sym p) y'))
          | first l w ↦ seq_first g h o.2 l w y y'
          | second l w ↦ turn (seq_first g h o.2 l w y' y)
        ]
    agree o (t_left {g} {h} x) (t_left x') = wrapped left (λ v m. In-left L.holds v (can_go_on S g)
        _ m) (agree o.0 x x')
    agree o (t_left {g} {h} x) (t_right x') = absurd (alt_apart g h o.2 o.3 o.4 x x')
    agree o (t_right {g} {h} x) (t_left x') = absurd (alt_apart g h o.2 o.3 o.4 x' x)
    agree o (t_right {g} {h} x) (t_right x') = wrapped right
        (λ v m. In-right L.holds v (can_go_on S g) _ m) (agree o.1 x x')
    agree o t_opt_out t_opt_out = same refl refl
    agree o t_opt_out (t_opt_in {g} x') = opt_first g o.1 x'
    agree o (t_opt_in {g} x) t_opt_out = turn (opt_first g o.1 x)
    agree o (t_opt_in {g} x) (t_opt_in x') = wrapped some (λ v m. In-right L.holds v (can_begin S g)
        _ m) (agree o.0 x x')
    agree o t_rep_out t_rep_out = same refl refl
    agree o t_rep_out (t_rep_in {g} x' y') = rep_out_first g o.1 x' y'
    agree o (t_rep_in {g} x y) t_rep_out = turn (rep_out_first g o.1 x y)
    agree o (t_rep_in {g} {b = b} x y) (t_rep_in {d = e} {b = b'} {c = c'} {u = u'} x' y') =
        elim (agree o.0 x x') [
          | same p q ↦ behind (λ v m. m) q
              (agree o y (subst (λ v. Tree L s n (rep g) e v c' u') (sym p)
              y'))
          | first l w ↦ rep_first g o.2 l w y y'
          | second l w ↦ turn (rep_first g o.2 l w y' y)
        ]
    agree o (t_nearest_out h) (t_nearest_out h') = same refl refl
    agree o (t_nearest_out h) (t_nearest_in k l w x') = absurd (h l w)
    agree o (t_nearest_in k l w x) (t_nearest_out h) = absurd (h l w)
    agree o (t_nearest_in k l w x) (t_nearest_in k' l' w' x') = wrapped some (λ _ m. m)
        (agree o x x')
    agree o t_ended_out t_ended_out = same refl refl
    agree o t_ended_out (t_ended_last k l w) = first (omega arith) (inl w)
    agree o t_ended_out (t_ended_in k l w x' y') =
        first (omega (arith, Trees.tree_forward L s n x', Trees.tree_forward L s n y')) (inl w)
    agree o (t_ended_last k l w) t_ended_out = second (omega arith) (inl w)
    agree o (t_ended_last k l w) (t_ended_last k' l' w') = same refl refl
    agree o (t_ended_last k l w) (t_ended_in {g} k' l' w' x' y') = ended_last_first k' g o.1 x' y'
    agree o (t_ended_in k l w x y) t_ended_out =
        second (omega (arith, Trees.tree_forward L s n x, Trees.tree_forward L s n y)) (inl w)
    agree o (t_ended_in {g} k l w x y) (t_ended_last k' l' w') = turn (ended_last_first k g o.1 x y)
    agree o (t_ended_in {g} k l w x y) (t_ended_in {d = e} {b = b'} {c = c'} {u = u'} k' l' w' x'
        y') = elim (agree o.0 x x') [
          | same p q ↦ behind (λ v m. m) q (agree o y (subst (λ v. Tree L s n (ended k g) e v c' u')
              (sym p) y'))
          | first i m ↦ ended_first k g o.2 i m y y'
          | second i m ↦ turn (ended_first k g o.2 i m y' y)
        ]
    agree o (t_deeper x) (t_deeper x') = wrapped (λ v. v) (λ _ m. m) (agree o x x')
    agree o (t_rule {p} x) (t_rule x') = wrapped (λ v. v) (fits.goes_on p)
        (agree (productions p) x x')

pub at_most_one_tree : {Token V T P : Type 0} → AtMostOneTree Token V T P
at_most_one_tree L S g d e s t u fits productions o x y =
    elim (agree L S fits s (length s) productions o x y) [
      | same p q ↦ q
      | first l w ↦ absurd (omega (arith, l))
      | second l w ↦ absurd (omega (arith, l))
    ]

-- The same as a test that computes, by a test of two tests.
module _ {T P : Type 0} (apart : T → T → Bool) (S : Marks T P) where
  abbrev pub decided : Grammar T P → Bool
  decided done = true
  decided none = true
  decided (word k g) = decided g
  decided (token k) = true
  decided (here g) = decided g
  decided (skip g) = decided g
  decided (seq g h) = decided g && (decided h && disjoint apart (can_go_on S g) (can_begin S h))
  decided (alt g h) = decided g && (decided h && (disjoint apart (can_begin S g) (can_begin S h) &&
      (not (can_be_empty S g) && not (can_be_empty S h))))
  decided (opt g) = decided g && not (can_be_empty S g)
  decided (rep g) = decided g && (not (can_be_empty S g) && disjoint apart (can_go_on S g)
      (can_begin S g))
  decided (nearest k g) = decided g
  decided (ended k g) = decided g && (not (can_be_empty S g) && disjoint apart (can_go_on S g)
      (k ∷ []))
  decided (deeper g) = decided g
  decided (rule p) = true

is_false : (b : Bool) → not b ≡ true → b ≡ false
is_false true e = cc
is_false false e = refl

-- it is right, where the test of two tests is
module _ {Token V T P : Type 0} (L : Language Token V T P) (S : Marks T P) (apart : T → T → Bool)
    (sound : (x y : T) (v : Token) → apart x y ≡ true → L.holds x v ≡ true → L.holds y v ≡ true
    → ⊥) where
  far : (xs ys : List T) → disjoint apart xs ys ≡ true → Apart L xs ys
  far xs ys e = clear L apart sound xs ys e

  pub decides : (g : Grammar T P) → decided apart S g ≡ true → OneTokenDecides L S g
  decides done e = tt
  decides none e = tt
  decides (word k g) e = decides g e
  decides (token k) e = tt
  decides (here g) e = decides g e
  decides (skip g) e = decides g e
  decides (seq g h) e = let r = and_right _ _ e
      in (decides g (and_left _ _ e), decides h (and_left _ _ r), far _ _ (and_right _ _ r))
  decides (alt g h) e =
      let r = and_right _ _ e in
      let q = and_right _ _ r in
      let f = and_right _ _ q in (
        decides g (and_left _ _ e),
        decides h (and_left _ _ r),
        far _ _ (and_left _ _ q),
        is_false _
            (and_left _ _ f),
        is_false _ (and_right _ _ f),
      )
  decides (opt g) e = (decides g (and_left _ _ e), is_false _ (and_right _ _ e))
  decides (rep g) e = let r = and_right _ _ e
      in (decides g (and_left _ _ e), is_false _ (and_left _ _ r), far _ _ (and_right _ _ r))
  decides (nearest k g) e = decides g e
  decides (ended k g) e = let r = and_right _ _ e
      in (decides g (and_left _ _ e), is_false _ (and_left _ _ r), far _ _ (and_right _ _ r))
  decides (deeper g) e = decides g e
  decides (rule p) e = tt
