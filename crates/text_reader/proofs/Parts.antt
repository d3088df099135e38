-- What is found of a grammar follows from what is found of its parts.
use Rattle.std.proofs.Common.{slice_get, Option, Some, None, ◌≡◌, ℕ, suc, ◌<◌}
use Rattle.std.proofs.Common.{◌≤◌, Bool, true, false, cond, inl, inr, List, []}
use Rattle.std.proofs.Common.{◌∷◌, ◌++◌, length, refl, sym, ◌∙◌, ap, subst, arith}
use Rattle.text_reader.specs.Grammar.{Language, At, Keeps, KeptOf, meets, Grammar, done, word}
use Rattle.text_reader.specs.Grammar.{token, here, skip, seq, alt, opt, deeper, rule, Shape}
use Rattle.text_reader.specs.Grammar.{chain, nothing, leaf, placed, both, left, right, some}
use Rattle.text_reader.specs.Grammar.{Tree, t_done, t_word, t_token, t_here, t_skip, t_seq}
use Rattle.text_reader.specs.Grammar.{t_left, t_right, t_opt_out, t_opt_in, t_deeper, t_rule}
use Rattle.text_reader.specs.Grammar.{Partial, p_none, p_whole, p_word, p_here, p_skip, p_first}
use Rattle.text_reader.specs.Grammar.{p_second, p_left, p_right, p_opt, p_deeper, p_rule}
use Rattle.text_reader.specs.Marks.{MeetsOne, Apart, Marks, can_be_empty}
use Rattle.text_reader.specs.Marks.{can_begin, can_go_on, Fits}
use Rattle.text_reader.specs.Opening.{o_now, o_word, o_here, o_skip, o_first, o_second}
use Rattle.text_reader.specs.Opening.{o_left, o_right, o_opt, o_deeper, o_rule}
use Rattle.text_reader.specs.Findings.{EndsNoLater, same, before, Found, Refused, SpeaksOf}
use Rattle.text_reader.proofs.Members.{In-left, In-right}
use Rattle.text_reader.proofs.Trees
use Rattle.text_reader.proofs.Trees.{cases, step}

levels_suc : (w : Bool) (d e : ℕ) → SpeaksOf w (suc d) (suc e) → SpeaksOf w d e
levels_suc false d e h = tt
levels_suc true d e h = omega arith

pub chain_more : {V : Type 0} (ts : List (Shape V)) (t u : Shape V)
    → chain (ts ++ t ∷ []) u ≡ chain ts (both t u)
chain_more [] t u = refl
chain_more (x ∷ ts) t u = ap (both x) (chain_more ts t u)

-- no token that meets k meets one of those
abbrev pub Outside : {Token V T P : Type 0} → Language Token V T P → T → List T → Type 0
Outside {Token} L k ks = (o : Option Token) → meets L.holds k o ≡ true → MeetsOne L.holds o ks → ⊥

pub kept_once : {Token V T P : Type 0} (L : Language Token V T P) (s : List Token) (a : ℕ) (v w : V)
    → Keeps L s a v → Keeps L s a w → w ≡ v
kept_once L s a v w h k = go (slice_get s a) h k
  where
    go : (o : Option _) → KeptOf L o v → KeptOf L o w → w ≡ v
    go None h k = elim h [ ]
    go (Some x) h k = sym k ∙ h

module _ {Token V T P : Type 0} (L : Language Token V T P) (S : Marks T P) (fits : Fits L S)
    (s : List Token) where
  pub ends_most : (g : Grammar T P) (n b c : ℕ) (t u : Shape V) → EndsNoLater L S s g n b t c u
      → c ≡ n
      → n ≤ b
  ends_most g n b c t u (same p q) e = omega arith
  ends_most g n b c t u (before l w) e = omega arith

  pub found_forward : {g : Grammar T P} {d a b : ℕ} {t : Shape V} → Found L S s g d a b t → a ≤ b
  found_forward h = Trees.tree_forward L s (length s) h.tree

  pub found_inside : {g : Grammar T P} {d a b : ℕ} {t : Shape V} → Found L S s g d a b t
      → b ≤ length s
  found_inside h = Trees.tree_inside L s (length s) h.tree h.inside

  pub refused_forward : {g : Grammar T P} {d a i : ℕ} {w : Bool} → Refused L S s g d a i w → a ≤ i
  refused_forward {i = i} h = Trees.partial_forward L s i h.partial

  -- nothing more
  pub done_found : (d a : ℕ) → a ≤ length s → Found L S s done d a a nothing
  done_found d a l = record { tree = t_done; inside = l; only = only; most = most }
    where
      only : (e n c : ℕ) (u : Shape V) → a ≤ n → n ≤ length s → Tree L s n done e a c u
          → EndsNoLater L S s done n a nothing c u
      only e n c u l m t_done = same refl refl

      most : (e n : ℕ) → a ≤ n → n ≤ length s → Partial L s n done e a → n ≤ a
      most e n l m (p_none q) = omega arith
      most e n l m (p_whole x q) = ends_most done n a _ _ _ (only e n _ _ l m x) q

  -- a token that cannot begin it
  pub refused_here : (g : Grammar T P) (d a : ℕ) → can_be_empty S g ≡ false → a ≤ length s
      → (MeetsOne L.holds (slice_get s a) (can_begin S g) → ⊥) → Refused L S s g d a a false
  refused_here g d a f l h = record {
    partial = p_none refl;
    inside = l;
    only = λ e n c u w m q x. absurd
        (h (Trees.tree_starts L s S fits n x (Trees.tree_moves L s S fits n x f)));
    most = λ e n w m q x. elim (step a n m) [
      | inl r ↦ absurd (h (Trees.partial_starts L s S fits n x r))
      | inr r ↦ omega (arith, r)
    ];
    more = λ e. absurd cc;
  }

  -- a token, and then the rest
  pub word_found : {g : Grammar T P} {d a b : ℕ} {t : Shape V} (k : T) → a < length s → At L s a k
      → Found L S s g d (suc a) b t → Found L S s (word k g) d a b t
  word_found {g} {d} {a} {b} {t} k l e h = record {
    tree = t_word k l e h.tree;
    inside = omega arith;
    only = only;
    most = most;
  }
    where
      only : (e n c : ℕ) (u : Shape V) → a ≤ n → n ≤ length s → Tree L s n (word k g) e a c u
          → EndsNoLater L S s (word k g) n b t c u
      only e n c u l m (t_word k r q x) = elim (h.only e n c u (omega arith) m x) [
        | same p q ↦ same p q
        | before p q ↦ before p q
      ]

      most : (e n : ℕ) → a ≤ n → n ≤ length s → Partial L s n (word k g) e a → n ≤ b
      most e n l m (p_none q) = omega (arith, found_forward h)
      most e n l m (p_whole x q) = ends_most (word k g) n b _ t _ (only e n _ _ l m x) q
      most e n l m (p_word k r q x) = h.most e n (omega arith) m x

  pub word_refused : {g : Grammar T P} {d a i : ℕ} {w : Bool} (k : T) → a < length s → At L s a k
      → Refused L S s g d (suc a) i w → Refused L S s (word k g) d a i w
  word_refused {g} {d} {a} {i} {w} k l e h = record {
    partial = p_word k (omega (arith, refused_forward h)) e h.partial;
    inside = h.inside;
    only = only;
    most = most;
    more = λ z. ((h.more z).0, o_word k (omega (arith, refused_forward h)) e (h.more z).1);
  }
    where
      only : (e n c : ℕ) (u : Shape V) → SpeaksOf w d e → a ≤ n → n ≤ length s
          → Tree L s n (word k g) e a c u
          → (c ≤ i) × (c < n → MeetsOne L.holds (slice_get s c) (can_go_on S (word k g)))
          × (c < length s)
      only e n c u z l m (t_word k r q x) = h.only e n c u z (omega arith) m x

      most : (e n : ℕ) → SpeaksOf w d e → a ≤ n → n ≤ length s → Partial L s n (word k g) e a
          → n ≤ i
      most e n z l m (p_none q) = omega (arith, refused_forward h)
      most e n z l m (p_whole x q) = omega (arith, (only e n _ _ z l m x).0)
      most e n z l m (p_word k r q x) = h.most e n z (omega arith) m x

  -- a token that the tree keeps
  pub token_found : (d : ℕ) {a : ℕ} (v : V) (k : T) → a < length s → At L s a k → Keeps L s a v
      → Found L S s (token k) d a (suc a) (leaf v)
  token_found d {a} v k l e z = record {
    tree = t_token v k l e z;
    inside = omega arith;
    only = only;
    most = most;
  }
    where
      only : (e n c : ℕ) (u : Shape V) → a ≤ n → n ≤ length s → Tree L s n (token k) e a c u
          → EndsNoLater L S s (token k) n (suc a) (leaf v) c u
      only e n c u l m (t_token v' k r q z') = same refl (ap leaf (kept_once L s a v v' z z'))

      most : (e n : ℕ) → a ≤ n → n ≤ length s → Partial L s n (token k) e a → n ≤ suc a
      most e n l m (p_none q) = omega arith
      most e n l m (p_whole x q) = ends_most (token k) n (suc a) _ _ _ (only e n _ _ l m x) q

  -- a place that the tree keeps
  pub here_found : {g : Grammar T P} {d a b : ℕ} {t : Shape V} → Found L S s g d a b t
      → Found L S s (here g) d a b (placed a t)
  here_found {g} {d} {a} {b} {t} h = record {
    tree = t_here h.tree;
    inside = h.inside;
    only = only;
    most = most;
  }
    where
      only : (e n c : ℕ) (u : Shape V) → a ≤ n → n ≤ length s → Tree L s n (here g) e a c u
          → EndsNoLater L S s (here g) n b (placed a t) c u
      only e n c u l m (t_here x) = elim (h.only e n c _ l m x) [
        | same p q ↦ same p (ap (placed a) q)
        | before p q ↦ before p q
      ]

      most : (e n : ℕ) → a ≤ n → n ≤ length s → Partial L s n (here g) e a → n ≤ b
      most e n l m (p_none q) = omega (arith, found_forward h)
      most e n l m (p_whole x q) = ends_most (here g) n b _ _ _ (only e n _ _ l m x) q
      most e n l m (p_here x) = h.most e n l m x

  pub here_refused : {g : Grammar T P} {d a i : ℕ} {w : Bool} → Refused L S s g d a i w
      → Refused L S s (here g) d a i w
  here_refused {g} {d} {a} {i} {w} h = record {
    partial = p_here h.partial;
    inside = h.inside;
    only = only;
    most = most;
    more = λ z. ((h.more z).0, o_here (h.more z).1);
  }
    where
      only : (e n c : ℕ) (u : Shape V) → SpeaksOf w d e → a ≤ n → n ≤ length s
          → Tree L s n (here g) e a c u
          → (c ≤ i) × (c < n → MeetsOne L.holds (slice_get s c) (can_go_on S (here g)))
          × (c < length s)
      only e n c u z l m (t_here x) = h.only e n c _ z l m x

      most : (e n : ℕ) → SpeaksOf w d e → a ≤ n → n ≤ length s → Partial L s n (here g) e a → n ≤ i
      most e n z l m (p_none q) = omega (arith, refused_forward h)
      most e n z l m (p_whole x q) = omega (arith, (only e n _ _ z l m x).0)
      most e n z l m (p_here x) = h.most e n z l m x

  -- a part of which the tree keeps nothing
  pub skip_found : {g : Grammar T P} {d a b : ℕ} {t : Shape V} → Found L S s g d a b t
      → Found L S s (skip g) d a b nothing
  skip_found {g} {d} {a} {b} {t} h = record {
    tree = t_skip h.tree;
    inside = h.inside;
    only = only;
    most = most;
  }
    where
      only : (e n c : ℕ) (u : Shape V) → a ≤ n → n ≤ length s → Tree L s n (skip g) e a c u
          → EndsNoLater L S s (skip g) n b nothing c u
      only e n c u l m (t_skip x) = elim (h.only e n c _ l m x) [
        | same p q ↦ same p refl
        | before p q ↦ before p q
      ]

      most : (e n : ℕ) → a ≤ n → n ≤ length s → Partial L s n (skip g) e a → n ≤ b
      most e n l m (p_none q) = omega (arith, found_forward h)
      most e n l m (p_whole x q) = ends_most (skip g) n b _ _ _ (only e n _ _ l m x) q
      most e n l m (p_skip x) = h.most e n l m x

  pub skip_refused : {g : Grammar T P} {d a i : ℕ} {w : Bool} → Refused L S s g d a i w
      → Refused L S s (skip g) d a i w
  skip_refused {g} {d} {a} {i} {w} h = record {
    partial = p_skip h.partial;
    inside = h.inside;
    only = only;
    most = most;
    more = λ z. ((h.more z).0, o_skip (h.more z).1);
  }
    where
      only : (e n c : ℕ) (u : Shape V) → SpeaksOf w d e → a ≤ n → n ≤ length s
          → Tree L s n (skip g) e a c u
          → (c ≤ i) × (c < n → MeetsOne L.holds (slice_get s c) (can_go_on S (skip g)))
          × (c < length s)
      only e n c u z l m (t_skip x) = h.only e n c _ z l m x

      most : (e n : ℕ) → SpeaksOf w d e → a ≤ n → n ≤ length s → Partial L s n (skip g) e a → n ≤ i
      most e n z l m (p_none q) = omega (arith, refused_forward h)
      most e n z l m (p_whole x q) = omega (arith, (only e n _ _ z l m x).0)
      most e n z l m (p_skip x) = h.most e n z l m x

  -- a production
  pub rule_found : {p : P} {d a b : ℕ} {t : Shape V} → Found L S s (L.production p) d a b t
      → Found L S s (rule p) d a b t
  rule_found {p} {d} {a} {b} {t} h = record {
    tree = t_rule h.tree;
    inside = h.inside;
    only = only;
    most = most;
  }
    where
      only : (e n c : ℕ) (u : Shape V) → a ≤ n → n ≤ length s → Tree L s n (rule p) e a c u
          → EndsNoLater L S s (rule p) n b t c u
      only e n c u l m (t_rule x) = elim (h.only e n c _ l m x) [
        | same p q ↦ same p q
        | before l q ↦ before l (λ z. fits.goes_on p _ (q z))
      ]

      most : (e n : ℕ) → a ≤ n → n ≤ length s → Partial L s n (rule p) e a → n ≤ b
      most e n l m (p_none q) = omega (arith, found_forward h)
      most e n l m (p_whole x q) = ends_most (rule p) n b _ t _ (only e n _ _ l m x) q
      most e n l m (p_rule x) = h.most e n l m x

  pub rule_refused : {p : P} {d a i : ℕ} {w : Bool} → Refused L S s (L.production p) d a i w
      → Refused L S s (rule p) d a i w
  rule_refused {p} {d} {a} {i} {w} h = record {
    partial = p_rule h.partial;
    inside = h.inside;
    only = only;
    most = most;
    more = λ z. ((h.more z).0, o_rule (h.more z).1);
  }
    where
      only : (e n c : ℕ) (u : Shape V) → SpeaksOf w d e → a ≤ n → n ≤ length s
          → Tree L s n (rule p) e a c u
          → (c ≤ i) × (c < n → MeetsOne L.holds (slice_get s c) (can_go_on S (rule p)))
          × (c < length s)
      only e n c u z l m (t_rule x) = let o = h.only e n c _ z l m x
          in (o.0, (λ z. fits.goes_on p _ (o.1 z)), o.2)

      most : (e n : ℕ) → SpeaksOf w d e → a ≤ n → n ≤ length s → Partial L s n (rule p) e a → n ≤ i
      most e n z l m (p_none q) = omega (arith, refused_forward h)
      most e n z l m (p_whole x q) = omega (arith, (only e n _ _ z l m x).0)
      most e n z l m (p_rule x) = h.most e n z l m x

  -- a level
  pub deeper_found : {g : Grammar T P} {d a b : ℕ} {t : Shape V} → Found L S s g d a b t
      → Found L S s (deeper g) (suc d) a b t
  deeper_found {g} {d} {a} {b} {t} h = record {
    tree = t_deeper h.tree;
    inside = h.inside;
    only = only;
    most = most;
  }
    where
      only : (e n c : ℕ) (u : Shape V) → a ≤ n → n ≤ length s → Tree L s n (deeper g) e a c u
          → EndsNoLater L S s (deeper g) n b t c u
      only _ n c u l m (t_deeper {d = e} x) = elim (h.only e n c _ l m x) [
        | same p q ↦ same p q
        | before p q ↦ before p q
      ]

      most : (e n : ℕ) → a ≤ n → n ≤ length s → Partial L s n (deeper g) e a → n ≤ b
      most e n l m (p_none q) = omega (arith, found_forward h)
      most e n l m (p_whole x q) = ends_most (deeper g) n b _ t _ (only e n _ _ l m x) q
      most _ n l m (p_deeper {d = e} x) = h.most e n l m x

  pub deeper_refused : {g : Grammar T P} {d a i : ℕ} {w : Bool} → Refused L S s g d a i w
      → Refused L S s (deeper g) (suc d) a i w
  deeper_refused {g} {d} {a} {i} {w} h = record {
    partial = p_deeper h.partial;
    inside = h.inside;
    only = only;
    most = most;
    more = λ z. ((h.more z).0, o_deeper (h.more z).1);
  }
    where
      only : (e n c : ℕ) (u : Shape V) → SpeaksOf w (suc d) e → a ≤ n → n ≤ length s
          → Tree L s n (deeper g) e a c u
          → (c ≤ i) × (c < n → MeetsOne L.holds (slice_get s c) (can_go_on S (deeper g)))
          × (c < length s)
      only _ n c u z l m (t_deeper {d = e} x) = h.only e n c _ (levels_suc w d e z) l m x

      most : (e n : ℕ) → SpeaksOf w (suc d) e → a ≤ n → n ≤ length s → Partial L s n (deeper g) e a
          → n ≤ i
      most e n z l m (p_none q) = omega (arith, refused_forward h)
      most e n z l m (p_whole x q) = omega (arith, (only e n _ _ z l m x).0)
      most _ n z l m (p_deeper {d = e} x) = h.most e n (levels_suc w d e z) l m x

  -- no level is left for this token
  pub too_deep : (g : Grammar T P) {a : ℕ} (k : T) → a < length s → At L s a k
      → Refused L S s (deeper (word k g)) 0 a a true
  too_deep g {a} k l e = record {
    partial = p_none refl;
    inside = omega arith;
    only = only;
    most = most;
    more = λ z. (l, o_now refl (p_word k (omega arith) e (p_none refl)));
  }
    where
      only : (e n c : ℕ) (u : Shape V) → e ≤ 0 → a ≤ n → n ≤ length s
          → Tree L s n (deeper (word k g)) e a c u
          → (c ≤ a) × (c < n → MeetsOne L.holds (slice_get s c) (can_go_on S (deeper (word k g))))
          × (c < length s)
      only _ n c u z l m (t_deeper x) = absurd (omega arith)

      most : (e n : ℕ) → e ≤ 0 → a ≤ n → n ≤ length s → Partial L s n (deeper (word k g)) e a
          → n ≤ a
      most e n z l m (p_none q) = omega arith
      most e n z l m (p_whole x q) = omega (arith, (only e n _ _ z l m x).0)
      most _ n z l m (p_deeper x) = absurd (omega arith)

  -- after a part that may end early, the next part takes no token
  apart : (g h : Grammar T P) (e n m c : ℕ) (u : Shape V) → Apart L (can_go_on S g) (can_begin S h)
      → m ≤ n → (m < n → MeetsOne L.holds (slice_get s m) (can_go_on S g)) → Tree L s n h e m c u
      → (c ≡ m) × (m < n → MeetsOne L.holds (slice_get s m)
      (can_go_on S h ++ cond (can_be_empty S h) (can_go_on S g) []))
  apart g h e n m c u d l w x = elim (step m c (Trees.tree_forward L s n x)) [
    | inl r ↦ absurd (d.none_meets (slice_get s m)
        (w (omega (arith, r, Trees.tree_inside L s n x l))) (Trees.tree_starts L s S fits n x r))
    | inr r ↦ (
      r,
      λ z. In-right L.holds (slice_get s m) (can_go_on S h) _ (elim (cases (can_be_empty S h)) [
        | inl f ↦ subst (λ v. MeetsOne L.holds (slice_get s m) (cond v (can_go_on S g) [])) (sym f)
            (w z)
        | inr f ↦ absurd (omega (arith, r, Trees.tree_moves L s S fits n x f))
      ]),
    )
  ]

  pub apart_partial : (g h : Grammar T P) (e n m : ℕ) → Apart L (can_go_on S g) (can_begin S h)
      → m ≤ n
      → (m < n → MeetsOne L.holds (slice_get s m) (can_go_on S g)) → Partial L s n h e m → n ≡ m
  apart_partial g h e n m d l w x = elim (step m n l) [
    | inl r ↦ absurd (d.none_meets (slice_get s m) (w r) (Trees.partial_starts L s S fits n x r))
    | inr r ↦ r
  ]

  -- one, and then the next
  pub seq_found : {g h : Grammar T P} {d a b c : ℕ} {t u : Shape V}
      → Apart L (can_go_on S g) (can_begin S h) → Found L S s g d a b t → Found L S s h d b c u
      → Found L S s (seq g h) d a c (both t u)
  seq_found {g} {h} {d} {a} {b} {c} {t} {u} j x y = record {
    tree = t_seq x.tree y.tree;
    inside = x.inside;
    only = only;
    most = most;
  }
    where
      only : (e n r : ℕ) (v : Shape V) → a ≤ n → n ≤ length s → Tree L s n (seq g h) e a r v
          → EndsNoLater L S s (seq g h) n c (both t u) r v
      only e n r v l m (t_seq {b = b'} {t = t'} {u = u'} x' y') =
          let f = Trees.tree_inside L s n x' l in
          elim (x.only e n b' t' l m x') [
            | same p q ↦ elim (y.only e n r u' (omega (arith, p, f)) m
                (subst (λ o. Tree L s n h e o r u') p y')) [
                  | same p' q' ↦ same p' (ap (λ o. both o u') q ∙ ap (both t) q')
                  | before l' w ↦ before l' (λ z. In-left L.holds (slice_get s r) (can_go_on S h) _
                      (w z))
                ]
            | before l' w ↦ let k = apart g h e n b' r u' j f w y' in
                before (omega (arith, k.0, l', found_forward y))
                (λ z. subst (λ o. MeetsOne L.holds (slice_get s o) (can_go_on S (seq g h)))
                (sym k.0) (k.1 (omega (arith, z, k.0))))
          ]

      most : (e n : ℕ) → a ≤ n → n ≤ length s → Partial L s n (seq g h) e a → n ≤ c
      most e n l m (p_none q) = omega (arith, found_forward x, found_forward y)
      most e n l m (p_whole x' q) = ends_most (seq g h) n c _ (both t u) _ (only e n _ _ l m x') q
      most e n l m (p_first x') = omega (arith, x.most e n l m x', found_forward y)
      most e n l m (p_second {b = b'} {t = t'} x' y') =
          let f = Trees.tree_inside L s n x' l in
          elim (x.only e n b' t' l m x') [
            | same p q ↦ y.most e n (omega (arith, p, f)) m (subst (λ o. Partial L s n h e o) p y')
            | before l' w ↦ omega (arith, l', found_forward y, apart_partial g h e n b' j f w y')
          ]

  -- the first part is refused
  pub seq_refused_first : {g : Grammar T P} (h : Grammar T P) {d a i : ℕ} {w : Bool}
      → Apart L (can_go_on S g) (can_begin S h) → Refused L S s g d a i w
      → Refused L S s (seq g h) d a i w
  seq_refused_first {g} h {d} {a} {i} {w} j x = record {
    partial = p_first x.partial;
    inside = x.inside;
    only = only;
    most = most;
    more = λ z. ((x.more z).0, o_first (x.more z).1);
  }
    where
      only : (e n r : ℕ) (v : Shape V) → SpeaksOf w d e → a ≤ n → n ≤ length s
          → Tree L s n (seq g h) e a r v
          → (r ≤ i) × (r < n → MeetsOne L.holds (slice_get s r) (can_go_on S (seq g h)))
          × (r < length s)
      only e n r v z l m (t_seq {b = b'} {t = t'} {u = u'} x' y') =
          let o = x.only e n b' t' z l m x' in
          let k = apart g h e n b' r u' j (Trees.tree_inside L s n x' l) o.1 y' in (
            omega (arith, o.0, k.0),
            (λ z. subst (λ o. MeetsOne L.holds (slice_get s o) (can_go_on S (seq g h))) (sym k.0)
                (k.1 (omega (arith, z, k.0)))),
            omega (arith, o.2, k.0),
          )

      most : (e n : ℕ) → SpeaksOf w d e → a ≤ n → n ≤ length s → Partial L s n (seq g h) e a → n ≤ i
      most e n z l m (p_none q) = omega (arith, refused_forward x)
      most e n z l m (p_whole x' q) = omega (arith, (only e n _ _ z l m x').0)
      most e n z l m (p_first x') = x.most e n z l m x'
      most e n z l m (p_second {b = b'} {t = t'} x' y') =
          let o = x.only e n b' t' z l m x' in
          omega (arith, o.0, apart_partial g h e n b' j (Trees.tree_inside L s n x' l) o.1 y')

  -- the first part is found, and what stands after it is refused
  pub seq_refused : {g h : Grammar T P} {d a b i : ℕ} {t : Shape V} {w : Bool}
      → Apart L (can_go_on S g) (can_begin S h) → Found L S s g d a b t → Refused L S s h d b i w
      → Refused L S s (seq g h) d a i w
  seq_refused {g} {h} {d} {a} {b} {i} {t} {w} j x y = record {
    partial = p_second (Trees.tree_of_fewer L s (length s) i x.tree (refused_forward y) y.inside)
        y.partial;
    inside = y.inside;
    only = only;
    most = most;
    more = λ z. let k =
        y.more z in (
          k.0,
          o_second (Trees.tree_of_fewer L s (length s) (suc i) x.tree
              (omega (arith, refused_forward y)) (omega (arith, k.0))) k.1,
        );
  }
    where
      only : (e n r : ℕ) (v : Shape V) → SpeaksOf w d e → a ≤ n → n ≤ length s
          → Tree L s n (seq g h) e a r v
          → (r ≤ i) × (r < n → MeetsOne L.holds (slice_get s r) (can_go_on S (seq g h)))
          × (r < length s)
      only e n r v z l m (t_seq {b = b'} {t = t'} {u = u'} x' y') =
          let f = Trees.tree_inside L s n x' l in
          elim (x.only e n b' t' l m x') [
            | same p q ↦ let k = y.only e n r u' z (omega (arith, p, f)) m
                (subst (λ o. Tree L s n h e o r u') p y') in
                (k.0, (λ z. In-left L.holds (slice_get s r) (can_go_on S h) _ (k.1 z)), k.2)
            | before l' w ↦ let k = apart g h e n b' r u' j f w y' in (
              omega (arith, k.0, l', refused_forward y),
              (λ z. subst (λ o. MeetsOne L.holds (slice_get s o) (can_go_on S (seq g h)))
                  (sym k.0) (k.1 (omega (arith, z, k.0)))),
              omega
                  (arith, k.0, l', found_inside x),
            )
          ]

      most : (e n : ℕ) → SpeaksOf w d e → a ≤ n → n ≤ length s → Partial L s n (seq g h) e a → n ≤ i
      most e n z l m (p_none q) = omega (arith, found_forward x, refused_forward y)
      most e n z l m (p_whole x' q) = omega (arith, (only e n _ _ z l m x').0)
      most e n z l m (p_first x') = omega (arith, x.most e n l m x', refused_forward y)
      most e n z l m (p_second {b = b'} {t = t'} x' y') =
          let f = Trees.tree_inside L s n x' l in
          elim (x.only e n b' t' l m x') [
            | same p q ↦ y.most e n z (omega (arith, p, f)) m (subst (λ o. Partial L s n h e o) p
                y')
            | before l' w ↦ omega (arith, l', refused_forward y, apart_partial g h e n b' j f w y')
          ]

  -- a token that begins another alternative begins no tree and no partial tree of this one
  no_tree : (h : Grammar T P) (ks : List T) (e n a r : ℕ) (v : Shape V) → Apart L ks (can_begin S h)
      → MeetsOne L.holds (slice_get s a) ks → can_be_empty S h ≡ false → Tree L s n h e a r v → ⊥
  no_tree h ks e n a r v j k f x = j.none_meets (slice_get s a) k (Trees.tree_starts L s S fits n x
      (Trees.tree_moves L s S fits n x f))

  no_partial : (h : Grammar T P) (ks : List T) (e n a : ℕ) → Apart L ks (can_begin S h)
      → MeetsOne L.holds (slice_get s a) ks → a ≤ n → Partial L s n h e a → n ≡ a
  no_partial h ks e n a j k l x = elim (step a n l) [
    | inl r ↦ absurd (j.none_meets (slice_get s a) k (Trees.partial_starts L s S fits n x r))
    | inr r ↦ r
  ]

  no_tree_left : (h : Grammar T P) (ks : List T) (e n a r : ℕ) (v : Shape V)
      → Apart L (can_begin S h) ks → MeetsOne L.holds (slice_get s a) ks → can_be_empty S h ≡ false
      → Tree L s n h e a r v → ⊥
  no_tree_left h ks e n a r v j k f x = j.none_meets (slice_get s a) (Trees.tree_starts L s S fits n
      x (Trees.tree_moves L s S fits n x f)) k

  no_partial_left : (h : Grammar T P) (ks : List T) (e n a : ℕ) → Apart L (can_begin S h) ks
      → MeetsOne L.holds (slice_get s a) ks → a ≤ n → Partial L s n h e a → n ≡ a
  no_partial_left h ks e n a j k l x = elim (step a n l) [
    | inl r ↦ absurd (j.none_meets (slice_get s a) (Trees.partial_starts L s S fits n x r) k)
    | inr r ↦ r
  ]

  -- the first token of a tree that was found
  pub begins : (g : Grammar T P) {d a b : ℕ} {t : Shape V} → can_be_empty S g ≡ false
      → Found L S s g d a b t → MeetsOne L.holds (slice_get s a) (can_begin S g)
  begins g f x = Trees.tree_starts L s S fits (length s) x.tree (Trees.tree_moves L s S fits
      (length s) x.tree f)

  -- two alternatives
  pub left_found : {g : Grammar T P} (h : Grammar T P) {d a b : ℕ} {t : Shape V}
      → Apart L (can_begin S g) (can_begin S h) → can_be_empty S g ≡ false
      → can_be_empty S h ≡ false → Found L S s g d a b t → Found L S s (alt g h) d a b (left t)
  left_found {g} h {d} {a} {b} {t} j f f' x = record {
    tree = t_left x.tree;
    inside = x.inside;
    only = only;
    most = most;
  }
    where
      only : (e n r : ℕ) (v : Shape V) → a ≤ n → n ≤ length s → Tree L s n (alt g h) e a r v
          → EndsNoLater L S s (alt g h) n b (left t) r v
      only e n r v l m (t_left x') = elim (x.only e n r _ l m x') [
        | same p q ↦ same p (ap left q)
        | before l' w ↦ before l' (λ z. In-left L.holds (slice_get s r) (can_go_on S g) _ (w z))
      ]
      only e n r v l m (t_right x') = absurd (no_tree h (can_begin S g) e n a r _ j (begins g f x)
          f' x')

      most : (e n : ℕ) → a ≤ n → n ≤ length s → Partial L s n (alt g h) e a → n ≤ b
      most e n l m (p_none q) = omega (arith, found_forward x)
      most e n l m (p_whole x' q) = ends_most (alt g h) n b _ (left t) _ (only e n _ _ l m x') q
      most e n l m (p_left x') = x.most e n l m x'
      most e n l m (p_right x') =
          omega (arith, no_partial h (can_begin S g) e n a j (begins g f x) l x', found_forward x)

  pub right_found : (g : Grammar T P) {h : Grammar T P} {d a b : ℕ} {t : Shape V}
      → Apart L (can_begin S g) (can_begin S h) → can_be_empty S g ≡ false
      → can_be_empty S h ≡ false → Found L S s h d a b t → Found L S s (alt g h) d a b (right t)
  right_found g {h} {d} {a} {b} {t} j f f' x = record {
    tree = t_right x.tree;
    inside = x.inside;
    only = only;
    most = most;
  }
    where
      only : (e n r : ℕ) (v : Shape V) → a ≤ n → n ≤ length s → Tree L s n (alt g h) e a r v
          → EndsNoLater L S s (alt g h) n b (right t) r v
      only e n r v l m (t_right x') = elim (x.only e n r _ l m x') [
        | same p q ↦ same p (ap right q)
        | before l' w ↦ before l' (λ z. In-right L.holds (slice_get s r) (can_go_on S g) _ (w z))
      ]
      only e n r v l m (t_left x') = absurd (no_tree_left g (can_begin S h) e n a r _ j
          (begins h f' x) f x')

      most : (e n : ℕ) → a ≤ n → n ≤ length s → Partial L s n (alt g h) e a → n ≤ b
      most e n l m (p_none q) = omega (arith, found_forward x)
      most e n l m (p_whole x' q) = ends_most (alt g h) n b _ (right t) _ (only e n _ _ l m x') q
      most e n l m (p_right x') = x.most e n l m x'
      most e n l m (p_left x') =
          omega (
            arith,
            no_partial_left g (can_begin S h) e n a j (begins h f' x) l x',
            found_forward x,
          )

  pub left_refused : {g : Grammar T P} (h : Grammar T P) {d a i : ℕ} {w : Bool}
      → Apart L (can_begin S g) (can_begin S h) → MeetsOne L.holds (slice_get s a) (can_begin S g)
      → can_be_empty S h ≡ false → Refused L S s g d a i w → Refused L S s (alt g h) d a i w
  left_refused {g} h {d} {a} {i} {w} j k f x = record {
    partial = p_left x.partial;
    inside = x.inside;
    only = only;
    most = most;
    more = λ z. ((x.more z).0, o_left (x.more z).1);
  }
    where
      only : (e n r : ℕ) (v : Shape V) → SpeaksOf w d e → a ≤ n → n ≤ length s
          → Tree L s n (alt g h) e a r v
          → (r ≤ i) × (r < n → MeetsOne L.holds (slice_get s r) (can_go_on S (alt g h)))
          × (r < length s)
      only e n r v z l m (t_left x') = let o = x.only e n r _ z l m x'
          in (o.0, (λ y. In-left L.holds (slice_get s r) (can_go_on S g) _ (o.1 y)), o.2)
      only e n r v z l m (t_right x') = absurd (no_tree h (can_begin S g) e n a r _ j k f x')

      most : (e n : ℕ) → SpeaksOf w d e → a ≤ n → n ≤ length s → Partial L s n (alt g h) e a → n ≤ i
      most e n z l m (p_none q) = omega (arith, refused_forward x)
      most e n z l m (p_whole x' q) = omega (arith, (only e n _ _ z l m x').0)
      most e n z l m (p_left x') = x.most e n z l m x'
      most e n z l m (p_right x') =
          omega (arith, no_partial h (can_begin S g) e n a j k l x', refused_forward x)

  pub right_refused : (g : Grammar T P) {h : Grammar T P} {d a i : ℕ} {w : Bool}
      → Apart L (can_begin S g) (can_begin S h) → MeetsOne L.holds (slice_get s a) (can_begin S h)
      → can_be_empty S g ≡ false → Refused L S s h d a i w → Refused L S s (alt g h) d a i w
  right_refused g {h} {d} {a} {i} {w} j k f x = record {
    partial = p_right x.partial;
    inside = x.inside;
    only = only;
    most = most;
    more = λ z. ((x.more z).0, o_right (x.more z).1);
  }
    where
      only : (e n r : ℕ) (v : Shape V) → SpeaksOf w d e → a ≤ n → n ≤ length s
          → Tree L s n (alt g h) e a r v
          → (r ≤ i) × (r < n → MeetsOne L.holds (slice_get s r) (can_go_on S (alt g h)))
          × (r < length s)
      only e n r v z l m (t_right x') = let o = x.only e n r _ z l m x'
          in (o.0, (λ y. In-right L.holds (slice_get s r) (can_go_on S g) _ (o.1 y)), o.2)
      only e n r v z l m (t_left x') = absurd (no_tree_left g (can_begin S h) e n a r _ j k f x')

      most : (e n : ℕ) → SpeaksOf w d e → a ≤ n → n ≤ length s → Partial L s n (alt g h) e a → n ≤ i
      most e n z l m (p_none q) = omega (arith, refused_forward x)
      most e n z l m (p_whole x' q) = omega (arith, (only e n _ _ z l m x').0)
      most e n z l m (p_right x') = x.most e n z l m x'
      most e n z l m (p_left x') =
          omega (arith, no_partial_left g (can_begin S h) e n a j k l x', refused_forward x)

  -- the token cannot begin the other alternative
  pub left_refused_else : {g : Grammar T P} (h : Grammar T P) {d a i : ℕ} {w : Bool}
      → (MeetsOne L.holds (slice_get s a) (can_begin S h) → ⊥) → can_be_empty S h ≡ false
      → Refused L S s g d a i w → Refused L S s (alt g h) d a i w
  left_refused_else {g} h {d} {a} {i} {w} k f x = record {
    partial = p_left x.partial;
    inside = x.inside;
    only = only;
    most = most;
    more = λ z. ((x.more z).0, o_left (x.more z).1);
  }
    where
      only : (e n r : ℕ) (v : Shape V) → SpeaksOf w d e → a ≤ n → n ≤ length s
          → Tree L s n (alt g h) e a r v
          → (r ≤ i) × (r < n → MeetsOne L.holds (slice_get s r) (can_go_on S (alt g h)))
          × (r < length s)
      only e n r v z l m (t_left x') = let o = x.only e n r _ z l m x'
          in (o.0, (λ y. In-left L.holds (slice_get s r) (can_go_on S g) _ (o.1 y)), o.2)
      only e n r v z l m (t_right x') =
          absurd (k (Trees.tree_starts L s S fits n x' (Trees.tree_moves L s S fits n x' f)))

      most : (e n : ℕ) → SpeaksOf w d e → a ≤ n → n ≤ length s → Partial L s n (alt g h) e a → n ≤ i
      most e n z l m (p_none q) = omega (arith, refused_forward x)
      most e n z l m (p_whole x' q) = omega (arith, (only e n _ _ z l m x').0)
      most e n z l m (p_left x') = x.most e n z l m x'
      most e n z l m (p_right x') = elim (step a n l) [
        | inl r ↦ absurd (k (Trees.partial_starts L s S fits n x' r))
        | inr r ↦ omega (arith, r, refused_forward x)
      ]

  -- [ g ]
  pub opt_in_found : {g : Grammar T P} {d a b : ℕ} {t : Shape V} → can_be_empty S g ≡ false
      → Found L S s g d a b t → Found L S s (opt g) d a b (some t)
  opt_in_found {g} {d} {a} {b} {t} f x = record {
    tree = t_opt_in x.tree;
    inside = x.inside;
    only = only;
    most = most;
  }
    where
      only : (e n r : ℕ) (v : Shape V) → a ≤ n → n ≤ length s → Tree L s n (opt g) e a r v
          → EndsNoLater L S s (opt g) n b (some t) r v
      only e n r v l m t_opt_out = before (Trees.tree_moves L s S fits (length s) x.tree f)
          (λ z. In-left L.holds (slice_get s a) (can_begin S g) _ (begins g f x))
      only e n r v l m (t_opt_in x') = elim (x.only e n r _ l m x') [
        | same p q ↦ same p (ap some q)
        | before l' w ↦ before l' (λ z. In-right L.holds (slice_get s r) (can_begin S g) _ (w z))
      ]

      most : (e n : ℕ) → a ≤ n → n ≤ length s → Partial L s n (opt g) e a → n ≤ b
      most e n l m (p_none q) = omega (arith, found_forward x)
      most e n l m (p_whole x' q) = ends_most (opt g) n b _ (some t) _ (only e n _ _ l m x') q
      most e n l m (p_opt x') = x.most e n l m x'

  pub opt_out_found : (g : Grammar T P) (d a : ℕ) → can_be_empty S g ≡ false → a ≤ length s
      → (MeetsOne L.holds (slice_get s a) (can_begin S g) → ⊥) → Found L S s (opt g) d a a nothing
  opt_out_found g d a f i k = record { tree = t_opt_out; inside = i; only = only; most = most }
    where
      only : (e n r : ℕ) (v : Shape V) → a ≤ n → n ≤ length s → Tree L s n (opt g) e a r v
          → EndsNoLater L S s (opt g) n a nothing r v
      only e n r v l m t_opt_out = same refl refl
      only e n r v l m (t_opt_in x') =
          absurd (k (Trees.tree_starts L s S fits n x' (Trees.tree_moves L s S fits n x' f)))

      most : (e n : ℕ) → a ≤ n → n ≤ length s → Partial L s n (opt g) e a → n ≤ a
      most e n l m (p_none q) = omega arith
      most e n l m (p_whole x' q) = ends_most (opt g) n a _ nothing _ (only e n _ _ l m x') q
      most e n l m (p_opt x') = elim (step a n l) [
        | inl r ↦ absurd (k (Trees.partial_starts L s S fits n x' r))
        | inr r ↦ omega (arith, r)
      ]

  pub opt_refused : {g : Grammar T P} {d a i : ℕ} {w : Bool} → a < length s
      → MeetsOne L.holds (slice_get s a) (can_begin S g) → Refused L S s g d a i w
      → Refused L S s (opt g) d a i w
  opt_refused {g} {d} {a} {i} {w} l0 k x = record {
    partial = p_opt x.partial;
    inside = x.inside;
    only = only;
    most = most;
    more = λ z. ((x.more z).0, o_opt (x.more z).1);
  }
    where
      only : (e n r : ℕ) (v : Shape V) → SpeaksOf w d e → a ≤ n → n ≤ length s
          → Tree L s n (opt g) e a r v
          → (r ≤ i) × (r < n → MeetsOne L.holds (slice_get s r) (can_go_on S (opt g)))
          × (r < length s)
      only e n r v z l m t_opt_out =
          (refused_forward x, (λ y. In-left L.holds (slice_get s a) (can_begin S g) _ k), l0)
      only e n r v z l m (t_opt_in x') = let o = x.only e n r _ z l m x'
          in (o.0, (λ y. In-right L.holds (slice_get s r) (can_begin S g) _ (o.1 y)), o.2)

      most : (e n : ℕ) → SpeaksOf w d e → a ≤ n → n ≤ length s → Partial L s n (opt g) e a → n ≤ i
      most e n z l m (p_none q) = omega (arith, refused_forward x)
      most e n z l m (p_whole x' q) = omega (arith, (only e n _ _ z l m x').0)
      most e n z l m (p_opt x') = x.most e n z l m x'
