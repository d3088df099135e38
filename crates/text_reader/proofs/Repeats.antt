-- What is found of repetitions follows from what is found of their turns.
use Rattle.std.proofs.Common.{slice_get, ◌≡◌, ℕ, suc, ◌<◌, ◌≤◌, Bool, false, inl, inr, List}
use Rattle.std.proofs.Common.{[], ◌∷◌, ◌++◌, length, refl, sym, ◌∙◌, ap, subst, arith}
use Rattle.text_reader.specs.Grammar.{Language, At, Grammar, seq, rep, nearest, ended, Shape}
use Rattle.text_reader.specs.Grammar.{chain, nothing, both, some, Tree, t_rep_out, t_rep_in}
use Rattle.text_reader.specs.Grammar.{t_nearest_out, t_nearest_in, t_ended_out, t_ended_last}
use Rattle.text_reader.specs.Grammar.{t_ended_in, Partial, p_none, p_whole, p_rep_first}
use Rattle.text_reader.specs.Grammar.{p_rep_more, p_nearest, p_ended_first, p_ended_more}
use Rattle.text_reader.specs.Marks.{MeetsOne, Apart, Marks, Fits}
use Rattle.text_reader.specs.Marks.{can_be_empty, can_begin, can_go_on}
use Rattle.text_reader.specs.Opening.{o_rep_first, o_rep_more, o_nearest}
use Rattle.text_reader.specs.Opening.{o_ended_first, o_ended_more}
use Rattle.text_reader.specs.Findings.{EndsNoLater, same, before, Found, Refused, SpeaksOf}
use Rattle.text_reader.proofs.Members.{In-left, In-right}
use Rattle.text_reader.proofs.Trees
use Rattle.text_reader.proofs.Trees.{step}
use Rattle.text_reader.proofs.Parts
use Rattle.text_reader.proofs.Parts.{chain_more, Outside}

module _ {Token V T P : Type 0} (L : Language Token V T P) (S : Marks T P) (fits : Fits L S)
    (s : List Token) where
  -- { g }
  pub rep_out_found : (g : Grammar T P) (d a : ℕ) → can_be_empty S g ≡ false → a ≤ length s
      → (MeetsOne L.holds (slice_get s a) (can_begin S g) → ⊥) → Found L S s (rep g) d a a nothing
  rep_out_found g d a f i k = record { tree = t_rep_out; inside = i; only = only; most = most }
    where
      only : (e n r : ℕ) (v : Shape V) → a ≤ n → n ≤ length s → Tree L s n (rep g) e a r v
          → EndsNoLater L S s (rep g) n a nothing r v
      only e n r v l m t_rep_out = same refl refl
      only e n r v l m (t_rep_in x' y') =
          absurd (k (Trees.tree_starts L s S fits n x' (Trees.tree_moves L s S fits n x' f)))

      most : (e n : ℕ) → a ≤ n → n ≤ length s → Partial L s n (rep g) e a → n ≤ a
      most e n l m (p_none q) = omega arith
      most e n l m (p_whole x' q) = Parts.ends_most L S fits s (rep g) n a _ nothing _
          (only e n _ _ l m x') q
      most e n l m (p_rep_first x') = elim (step a n l) [
        | inl r ↦ absurd (k (Trees.partial_starts L s S fits n x' r))
        | inr r ↦ omega (arith, r)
      ]
      most e n l m (p_rep_more x' y') =
          absurd (k (Trees.tree_starts L s S fits n x' (Trees.tree_moves L s S fits n x' f)))

  -- after a turn that may end early comes no further turn
  apart_rep : (g : Grammar T P) (e n m c : ℕ) (u : Shape V)
      → Apart L (can_go_on S g) (can_begin S g) → m ≤ n
      → (m < n → MeetsOne L.holds (slice_get s m) (can_go_on S g)) → Tree L s n (rep g) e m c u
      → c ≡ m
  apart_rep g e n m c u d l w x = elim (step m c (Trees.tree_forward L s n x)) [
    | inl r ↦ absurd (d.none_meets (slice_get s m)
        (w (omega (arith, r, Trees.tree_inside L s n x l))) (Trees.tree_starts L s S fits n x r))
    | inr r ↦ r
  ]

  pub rep_in_found : {g : Grammar T P} {d a b c : ℕ} {t u : Shape V}
      → Apart L (can_go_on S g) (can_begin S g) → can_be_empty S g ≡ false → Found L S s g d a b t
      → Found L S s (rep g) d b c u → Found L S s (rep g) d a c (both t u)
  rep_in_found {g} {d} {a} {b} {c} {t} {u} j f x y = record {
    tree = t_rep_in x.tree y.tree;
    inside = x.inside;
    only = only;
    most = most;
  }
    where
      only : (e n r : ℕ) (v : Shape V) → a ≤ n → n ≤ length s → Tree L s n (rep g) e a r v
          → EndsNoLater L S s (rep g) n c (both t u) r v
      only e n r v l m t_rep_out =
          before (omega (
            arith,
            Trees.tree_moves L s S fits (length s) x.tree f,
            Parts.found_forward
                L S fits s y,
          ))
          (λ z. In-left L.holds (slice_get s a) (can_begin S g) _ (Parts.begins L S fits s g f x))
      only e n r v l m (t_rep_in {b = b'} {t = t'} {u = u'} x' y') =
          let i = Trees.tree_inside L s n x' l in
          elim (x.only e n b' t' l m x') [
            | same p q ↦ elim (y.only e n r u' (omega (arith, p, i)) m
                (subst (λ o. Tree L s n (rep g) e o r u') p y')) [
                  | same p' q' ↦ same p' (ap (λ o. both o u') q ∙ ap (both t) q')
                  | before l' w ↦ before l' w
                ]
            | before l' w ↦ let k = apart_rep g e n b' r u' j i w y' in
                before (omega (arith, k, l', Parts.found_forward L S fits s y))
                (λ z. subst (λ o. MeetsOne L.holds (slice_get s o) (can_go_on S (rep g)))
                (sym k) (In-right L.holds (slice_get s b') (can_begin S g) _
                (w (omega (arith, z, k)))))
          ]

      most : (e n : ℕ) → a ≤ n → n ≤ length s → Partial L s n (rep g) e a → n ≤ c
      most e n l m (p_none q) =
          omega (arith, Parts.found_forward L S fits s x, Parts.found_forward L S fits s y)
      most e n l m (p_whole x' q) = Parts.ends_most L S fits s (rep g) n c _ (both t u) _
          (only e n _ _ l m x') q
      most e n l m (p_rep_first x') =
          omega (arith, x.most e n l m x', Parts.found_forward L S fits s y)
      most e n l m (p_rep_more {b = b'} {t = t'} x' y') =
          let i = Trees.tree_inside L s n x' l in
          elim (x.only e n b' t' l m x') [
            | same p q ↦ y.most e n (omega (arith, p, i)) m (subst (λ o. Partial L s n (rep g) e o)
                p y')
            | before l' w ↦ omega (
              arith,
              l',
              Parts.found_forward L S fits s y,
              Parts.apart_partial L S fits s g (rep g) e n b' j i w
                  y',
            )
          ]

  pub rep_refused_first : {g : Grammar T P} {d a i : ℕ} {w : Bool}
      → Apart L (can_go_on S g) (can_begin S g) → a < length s
      → MeetsOne L.holds (slice_get s a) (can_begin S g) → Refused L S s g d a i w
      → Refused L S s (rep g) d a i w
  rep_refused_first {g} {d} {a} {i} {w} j l0 k x = record {
    partial = p_rep_first x.partial;
    inside = x.inside;
    only = only;
    most = most;
    more = λ z. ((x.more z).0, o_rep_first (x.more z).1);
  }
    where
      only : (e n r : ℕ) (v : Shape V) → SpeaksOf w d e → a ≤ n → n ≤ length s
          → Tree L s n (rep g) e a r v
          → (r ≤ i) × (r < n → MeetsOne L.holds (slice_get s r) (can_go_on S (rep g)))
          × (r < length s)
      only e n r v z l m t_rep_out = (
        Parts.refused_forward L S fits s x,
        (λ y. In-left L.holds (slice_get s a) (can_begin S g)
            _ k),
        l0,
      )
      only e n r v z l m (t_rep_in {b = b'} {t = t'} {u = u'} x' y') =
          let o = x.only e n b' t' z l m x' in
          let q = apart_rep g e n b' r u' j (Trees.tree_inside L s n x' l) o.1 y' in (
            omega (arith, o.0, q),
            (λ y. subst (λ o. MeetsOne L.holds (slice_get s o)
                (can_go_on S (rep g))) (sym q) (In-right L.holds (slice_get s b') (can_begin S g) _
                (o.1 (omega (arith, y, q))))),
            omega (arith, o.2, q),
          )

      most : (e n : ℕ) → SpeaksOf w d e → a ≤ n → n ≤ length s → Partial L s n (rep g) e a → n ≤ i
      most e n z l m (p_none q) = omega (arith, Parts.refused_forward L S fits s x)
      most e n z l m (p_whole x' q) = omega (arith, (only e n _ _ z l m x').0)
      most e n z l m (p_rep_first x') = x.most e n z l m x'
      most e n z l m (p_rep_more {b = b'} {t = t'} x' y') =
          let o = x.only e n b' t' z l m x' in
          omega (
            arith,
            o.0,
            Parts.apart_partial L S fits s g (rep g) e n b' j
                (Trees.tree_inside L s n x' l) o.1 y',
          )

  pub rep_refused : {g : Grammar T P} {d a b i : ℕ} {t : Shape V} {w : Bool}
      → Apart L (can_go_on S g) (can_begin S g) → can_be_empty S g ≡ false → Found L S s g d a b t
      → Refused L S s (rep g) d b i w → Refused L S s (rep g) d a i w
  rep_refused {g} {d} {a} {b} {i} {t} {w} j f x y = record {
    partial = p_rep_more (Trees.tree_of_fewer L s (length s) i x.tree
        (Parts.refused_forward L S fits s y) y.inside)
        y.partial;
    inside = y.inside;
    only = only;
    most = most;
    more = λ z. let k =
        y.more z in (
          k.0,
          o_rep_more (Trees.tree_of_fewer L s (length s) (suc i) x.tree
              (omega (arith, Parts.refused_forward L S fits s y)) (omega (arith, k.0))) k.1,
        );
  }
    where
      only : (e n r : ℕ) (v : Shape V) → SpeaksOf w d e → a ≤ n → n ≤ length s
          → Tree L s n (rep g) e a r v
          → (r ≤ i) × (r < n → MeetsOne L.holds (slice_get s r) (can_go_on S (rep g)))
          × (r < length s)
      only e n r v z l m t_rep_out = (
        omega (arith, Parts.found_forward L S fits s x, Parts.refused_forward L S fits s y),
        (λ o. In-left L.holds (slice_get s a)
            (can_begin S g) _ (Parts.begins L S fits s g f x)),
        omega (
          arith,
          Trees.tree_moves L s S fits (length s) x.tree f,
          Parts.found_inside L S fits s
              x,
        ),
      )
      only e n r v z l m (t_rep_in {b = b'} {t = t'} {u = u'} x' y') =
          let h = Trees.tree_inside L s n x' l in
          elim (x.only e n b' t' l m x') [
            | same p q ↦ y.only e n r u' z (omega (arith, p, h)) m
                (subst (λ o. Tree L s n (rep g) e o r u') p y')
            | before l' w ↦ let k = apart_rep g e n b' r u' j h w y' in (
              omega (arith, k, l', Parts.refused_forward L S fits s y),
              (λ z. subst (λ o. MeetsOne L.holds (slice_get s o) (can_go_on S (rep g)))
                  (sym k) (In-right L.holds (slice_get s b') (can_begin S g) _
                  (w (omega (arith, z, k))))),
              omega (arith, k, l', Parts.found_inside L S fits s x),
            )
          ]

      most : (e n : ℕ) → SpeaksOf w d e → a ≤ n → n ≤ length s → Partial L s n (rep g) e a → n ≤ i
      most e n z l m (p_none q) =
          omega (arith, Parts.found_forward L S fits s x, Parts.refused_forward L S fits s y)
      most e n z l m (p_whole x' q) = omega (arith, (only e n _ _ z l m x').0)
      most e n z l m (p_rep_first x') =
          omega (arith, x.most e n l m x', Parts.refused_forward L S fits s y)
      most e n z l m (p_rep_more {b = b'} {t = t'} x' y') =
          let h = Trees.tree_inside L s n x' l in
          elim (x.only e n b' t' l m x') [
            | same p q ↦ y.most e n z (omega (arith, p, h)) m
                (subst (λ o. Partial L s n (rep g) e o) p y')
            | before l' w ↦ omega (
              arith,
              l',
              Parts.refused_forward L S fits s y,
              Parts.apart_partial L S fits s g (rep g) e n b' j h
                  w y',
            )
          ]

  -- [ k g ] for the nearest that can take it
  pub nearest_in_found : {g : Grammar T P} {d a b : ℕ} {t : Shape V} (k : T) → a < length s
      → At L s a k → Found L S s g d (suc a) b t → Found L S s (nearest k g) d a b (some t)
  nearest_in_found {g} {d} {a} {b} {t} k i j x = record {
    tree = t_nearest_in k i j x.tree;
    inside = omega arith;
    only = only;
    most = most;
  }
    where
      only : (e n r : ℕ) (v : Shape V) → a ≤ n → n ≤ length s → Tree L s n (nearest k g) e a r v
          → EndsNoLater L S s (nearest k g) n b (some t) r v
      only e n r v l m (t_nearest_out q) = before (Parts.found_forward L S fits s x)
          (λ z. absurd (q z j))
      only e n r v l m (t_nearest_in k o q x') = elim (x.only e n r _ (omega arith) m x') [
        | same p q ↦ same p (ap some q)
        | before p q ↦ before p q
      ]

      most : (e n : ℕ) → a ≤ n → n ≤ length s → Partial L s n (nearest k g) e a → n ≤ b
      most e n l m (p_none q) = omega (arith, Parts.found_forward L S fits s x)
      most e n l m (p_whole x' q) = Parts.ends_most L S fits s (nearest k g) n b _ (some t) _
          (only e n _ _ l m x') q
      most e n l m (p_nearest k o q x') = x.most e n (omega arith) m x'

  pub nearest_out_found : (g : Grammar T P) (k : T) (d a : ℕ) → a ≤ length s → (At L s a k → ⊥)
      → Found L S s (nearest k g) d a a nothing
  nearest_out_found g k d a i j = record {
    tree = t_nearest_out (λ z. j);
    inside = i;
    only = only;
    most = most;
  }
    where
      only : (e n r : ℕ) (v : Shape V) → a ≤ n → n ≤ length s → Tree L s n (nearest k g) e a r v
          → EndsNoLater L S s (nearest k g) n a nothing r v
      only e n r v l m (t_nearest_out q) = same refl refl
      only e n r v l m (t_nearest_in k o q x') = absurd (j q)

      most : (e n : ℕ) → a ≤ n → n ≤ length s → Partial L s n (nearest k g) e a → n ≤ a
      most e n l m (p_none q) = omega arith
      most e n l m (p_whole x' q) = Parts.ends_most L S fits s (nearest k g) n a _ nothing _
          (only e n _ _ l m x') q
      most e n l m (p_nearest k o q x') = absurd (j q)

  pub nearest_refused : {g : Grammar T P} {d a i : ℕ} {w : Bool} (k : T) → a < length s → At L s a k
      → Refused L S s g d (suc a) i w → Refused L S s (nearest k g) d a i w
  nearest_refused {g} {d} {a} {i} {w} k l e h = record {
    partial = p_nearest k (omega (arith, Parts.refused_forward L S fits s h)) e h.partial;
    inside = h.inside;
    only = only;
    most = most;
    more = λ z. (
      (h.more z).0,
      o_nearest k (omega (arith, Parts.refused_forward L S fits s h)) e
          (h.more z).1,
    );
  }
    where
      only : (e n c : ℕ) (u : Shape V) → SpeaksOf w d e → a ≤ n → n ≤ length s
          → Tree L s n (nearest k g) e a c u
          → (c ≤ i) × (c < n → MeetsOne L.holds (slice_get s c) (can_go_on S (nearest k g)))
          × (c < length s)
      only e' n c u z l' m (t_nearest_out q) =
          (omega (arith, Parts.refused_forward L S fits s h), (λ z. absurd (q z e)), l)
      only e' n c u z l m (t_nearest_in k r q x) = h.only e' n c _ z (omega arith) m x

      most : (e n : ℕ) → SpeaksOf w d e → a ≤ n → n ≤ length s → Partial L s n (nearest k g) e a
          → n ≤ i
      most e' n z l m (p_none q) = omega (arith, Parts.refused_forward L S fits s h)
      most e' n z l m (p_whole x q) = omega (arith, (only e' n _ _ z l m x).0)
      most e' n z l m (p_nearest k r q x) = h.most e' n z (omega arith) m x

  -- { k g } [ k ]
  pub ended_out_found : (g : Grammar T P) (k : T) (d a : ℕ) → a ≤ length s → (At L s a k → ⊥)
      → Found L S s (ended k g) d a a nothing
  ended_out_found g k d a i j = record { tree = t_ended_out; inside = i; only = only; most = most }
    where
      only : (e n r : ℕ) (v : Shape V) → a ≤ n → n ≤ length s → Tree L s n (ended k g) e a r v
          → EndsNoLater L S s (ended k g) n a nothing r v
      only e n r v l m t_ended_out = same refl refl
      only e n r v l m (t_ended_last k o q) = absurd (j q)
      only e n r v l m (t_ended_in k o q x' y') = absurd (j q)

      most : (e n : ℕ) → a ≤ n → n ≤ length s → Partial L s n (ended k g) e a → n ≤ a
      most e n l m (p_none q) = omega arith
      most e n l m (p_whole x' q) = Parts.ends_most L S fits s (ended k g) n a _ nothing _
          (only e n _ _ l m x') q
      most e n l m (p_ended_first k o q x') = absurd (j q)
      most e n l m (p_ended_more k o q x' y') = absurd (j q)

  pub ended_last_found : (g : Grammar T P) (k : T) (d a : ℕ) → can_be_empty S g ≡ false
      → a < length s → At L s a k → (MeetsOne L.holds (slice_get s (suc a)) (can_begin S g) → ⊥)
      → Found L S s (ended k g) d a (suc a) nothing
  ended_last_found g k d a f i j w = record {
    tree = t_ended_last k i j;
    inside = omega arith;
    only = only;
    most = most;
  }
    where
      only : (e n r : ℕ) (v : Shape V) → a ≤ n → n ≤ length s → Tree L s n (ended k g) e a r v
          → EndsNoLater L S s (ended k g) n (suc a) nothing r v
      only e n r v l m t_ended_out = before (omega arith) (λ z. inl j)
      only e n r v l m (t_ended_last k o q) = same refl refl
      only e n r v l m (t_ended_in k o q x' y') =
          absurd (w (Trees.tree_starts L s S fits n x' (Trees.tree_moves L s S fits n x' f)))

      most : (e n : ℕ) → a ≤ n → n ≤ length s → Partial L s n (ended k g) e a → n ≤ suc a
      most e n l m (p_none q) = omega arith
      most e n l m (p_whole x' q) = Parts.ends_most L S fits s (ended k g) n (suc a) _ nothing _
          (only e n _ _ l m x') q
      most e n l m (p_ended_first k o q x') = elim (step (suc a) n (omega arith)) [
        | inl r ↦ absurd (w (Trees.partial_starts L s S fits n x' r))
        | inr r ↦ omega (arith, r)
      ]
      most e n l m (p_ended_more k o q x' y') =
          absurd (w (Trees.tree_starts L s S fits n x' (Trees.tree_moves L s S fits n x' f)))

  apart_word : (g : Grammar T P) (k : T) (n m : ℕ) → Outside L k (can_go_on S g) → m ≤ n
      → (m < n → MeetsOne L.holds (slice_get s m) (can_go_on S g)) → m < n → At L s m k → ⊥
  apart_word g k n m d l w i e = d (slice_get s m) e (w i)

  pub ended_in_found : {g : Grammar T P} {d a b c : ℕ} {t u : Shape V} (k : T)
      → Outside L k (can_go_on S g) → can_be_empty S g ≡ false → a < length s → At L s a k
      → Found L S s g d (suc a) b t → Found L S s (ended k g) d b c u
      → Found L S s (ended k g) d a c (both t u)
  ended_in_found {g} {d} {a} {b} {c} {t} {u} k j f i' j' x y = record {
    tree = t_ended_in k i' j' x.tree y.tree;
    inside = omega arith;
    only = only;
    most = most;
  }
    where
      only : (e n r : ℕ) (v : Shape V) → a ≤ n → n ≤ length s → Tree L s n (ended k g) e a r v
          → EndsNoLater L S s (ended k g) n c (both t u) r v
      only e n r v l m t_ended_out =
          before (omega (arith, Parts.found_forward L S fits s x, Parts.found_forward L S fits s y))
          (λ z. inl j')
      only e n r v l m (t_ended_last k o q) =
          before (omega (
            arith,
            Trees.tree_moves L s S fits (length s) x.tree f,
            Parts.found_forward
                L S fits s y,
          ))
          (λ z. inr (In-left L.holds (slice_get s (suc a)) (can_begin S g) _
          (Parts.begins L S fits s g f x)))
      only e n r v l m (t_ended_in {b = b'} {t = t'} {u = u'} k o q x' y') =
          let i = Trees.tree_inside L s n x' o in
          elim (x.only e n b' t' o m x') [
            | same p q ↦ elim (y.only e n r u' (omega (arith, p, i)) m
                (subst (λ o. Tree L s n (ended k g) e o r u') p y')) [
                  | same p' q' ↦ same p' (ap (λ o. both o u') q ∙ ap (both t) q')
                  | before l' w ↦ before l' w
                ]
            | before l' w ↦ let h = apart_ended e n b' r u' i w y' in
                before (omega (arith, h, l', Parts.found_forward L S fits s y))
                (λ z. subst (λ o. MeetsOne L.holds (slice_get s o) (can_go_on S (ended k g)))
                (sym h) (inr (In-right L.holds (slice_get s b') (can_begin S g) _
                (w (omega (arith, z, h))))))
          ]
        where
          apart_ended : (e n b' r : ℕ) (u' : Shape V) → b' ≤ n
              → (b' < n → MeetsOne L.holds (slice_get s b') (can_go_on S g))
              → Tree L s n (ended k g) e b' r u' → r ≡ b'
          apart_ended e n b' r u' l w t_ended_out = refl
          apart_ended e n b' r u' l w (t_ended_last k o q) = absurd (apart_word g k n b' j l w o q)
          apart_ended e n b' r u' l w (t_ended_in k o q x y) =
              absurd (apart_word g k n b' j l w o q)

      most : (e n : ℕ) → a ≤ n → n ≤ length s → Partial L s n (ended k g) e a → n ≤ c
      most e n l m (p_none q) =
          omega (arith, Parts.found_forward L S fits s x, Parts.found_forward L S fits s y)
      most e n l m (p_whole x' q) = Parts.ends_most L S fits s (ended k g) n c _ (both t u) _
          (only e n _ _ l m x') q
      most e n l m (p_ended_first k o q x') =
          omega (arith, x.most e n o m x', Parts.found_forward L S fits s y)
      most e n l m (p_ended_more {b = b'} {t = t'} k o q x' y') =
          let i = Trees.tree_inside L s n x' o in
          elim (x.only e n b' t' o m x') [
            | same p q ↦ y.most e n (omega (arith, p, i)) m
                (subst (λ o. Partial L s n (ended k g) e o) p y')
            | before l' w ↦ omega (
              arith,
              l',
              Parts.found_forward L S fits s y,
              elim (step b' n i) as (λ _. n ≡ b') [
                | inl r ↦ absurd (apart_word g k n b' j i w r (apart_ended e n b' i w y' r))
                | inr r ↦ r
              ],
            )
          ]
        where
          apart_ended : (e n b' : ℕ) → b' ≤ n
              → (b' < n → MeetsOne L.holds (slice_get s b') (can_go_on S g))
              → Partial L s n (ended k g) e b' → b' < n → At L s b' k
          apart_ended e n b' l w (p_none q) r = absurd (omega arith)
          apart_ended e n b' l w (p_whole t_ended_out q) r = absurd (omega arith)
          apart_ended e n b' l w (p_whole (t_ended_last k o z) q) r = z
          apart_ended e n b' l w (p_whole (t_ended_in k o z x y) q) r = z
          apart_ended e n b' l w (p_ended_first k o q x) r = q
          apart_ended e n b' l w (p_ended_more k o q x y) r = q

  pub ended_refused_first : {g : Grammar T P} {d a i : ℕ} {w : Bool} (k : T)
      → Outside L k (can_go_on S g) → a < length s → At L s a k → suc a < length s
      → MeetsOne L.holds (slice_get s (suc a)) (can_begin S g) → Refused L S s g d (suc a) i w
      → Refused L S s (ended k g) d a i w
  ended_refused_first {g} {d} {a} {i} {w} k j l e l0 f x = record {
    partial = p_ended_first k (omega (arith, Parts.refused_forward L S fits s x)) e x.partial;
    inside = x.inside;
    only = only;
    most = most;
    more = λ z. (
      (x.more z).0,
      o_ended_first k (omega (arith, Parts.refused_forward L S fits s x)) e
          (x.more z).1,
    );
  }
    where
      rest : (e n b' r : ℕ) (u' : Shape V) → b' ≤ n
          → (b' < n → MeetsOne L.holds (slice_get s b') (can_go_on S g))
          → Tree L s n (ended k g) e b' r u' → r ≡ b'
      rest e n b' r u' l w t_ended_out = refl
      rest e n b' r u' l w (t_ended_last k o q) = absurd (apart_word g k n b' j l w o q)
      rest e n b' r u' l w (t_ended_in k o q x y) = absurd (apart_word g k n b' j l w o q)

      rest_partial : (e n b' : ℕ) → b' ≤ n
          → (b' < n → MeetsOne L.holds (slice_get s b') (can_go_on S g))
          → Partial L s n (ended k g) e b' → n ≤ b'
      rest_partial e n b' l w (p_none q) = omega arith
      rest_partial e n b' l w (p_whole x q) = omega (arith, rest e n b' _ _ l w x)
      rest_partial e n b' l w (p_ended_first k o q x) = absurd (apart_word g k n b' j l w o q)
      rest_partial e n b' l w (p_ended_more k o q x y) = absurd (apart_word g k n b' j l w o q)

      only : (e n r : ℕ) (v : Shape V) → SpeaksOf w d e → a ≤ n → n ≤ length s
          → Tree L s n (ended k g) e a r v
          → (r ≤ i) × (r < n → MeetsOne L.holds (slice_get s r) (can_go_on S (ended k g)))
          × (r < length s)
      only e' n r v z l' m t_ended_out =
          (omega (arith, Parts.refused_forward L S fits s x), (λ y. inl e), l)
      only e' n r v z l m (t_ended_last k o q) = (
        Parts.refused_forward L S fits s x,
        (λ y. inr (In-left L.holds (slice_get s (suc a)) (can_begin S g) _
            f)),
        l0,
      )
      only e' n r v z l m (t_ended_in {b = b'} {t = t'} {u = u'} k o q x' y') =
          let p = x.only e' n b' t' z o m x' in
          let h = rest e' n b' r u' (Trees.tree_inside L s n x' o) p.1 y' in (
            omega (arith, p.0, h),
            (λ y. subst (λ o. MeetsOne L.holds (slice_get s o)
                (can_go_on S (ended k g))) (sym h)
                (inr (In-right L.holds (slice_get s b') (can_begin S g) _
                (p.1 (omega (arith, y, h)))))),
            omega (arith, p.2, h),
          )

      most : (e n : ℕ) → SpeaksOf w d e → a ≤ n → n ≤ length s → Partial L s n (ended k g) e a
          → n ≤ i
      most e' n z l m (p_none q) = omega (arith, Parts.refused_forward L S fits s x)
      most e' n z l m (p_whole x' q) = omega (arith, (only e' n _ _ z l m x').0)
      most e' n z l m (p_ended_first k o q x') = x.most e' n z o m x'
      most e' n z l m (p_ended_more {b = b'} {t = t'} k o q x' y') =
          let p = x.only e' n b' t' z o m x' in
          omega (arith, p.0, rest_partial e' n b' (Trees.tree_inside L s n x' o) p.1 y')

  pub ended_refused : {g : Grammar T P} {d a b i : ℕ} {t : Shape V} {w : Bool} (k : T)
      → Outside L k (can_go_on S g) → can_be_empty S g ≡ false → a < length s → At L s a k
      → Found L S s g d (suc a) b t → Refused L S s (ended k g) d b i w
      → Refused L S s (ended k g) d a i w
  ended_refused {g} {d} {a} {b} {i} {t} {w} k j f l e x y = record {
    partial = p_ended_more k
        (omega (arith, Parts.found_forward L S fits s x, Parts.refused_forward L S fits s y)) e
        (Trees.tree_of_fewer L s (length s) i x.tree (Parts.refused_forward L S fits s y) y.inside)
        y.partial;
    inside = y.inside;
    only = only;
    most = most;
    more = λ z. let k' =
        y.more z in (
          k'.0,
          o_ended_more k (omega (
            arith,
            Parts.found_forward L S fits s x,
            Parts.refused_forward L S
                fits s y,
          )) e
              (Trees.tree_of_fewer L s (length s) (suc i) x.tree
              (omega (arith, Parts.refused_forward L S fits s y))
              (omega (arith, k'.0))) k'.1,
        );
  }
    where
      rest : (e n b' r : ℕ) (u' : Shape V) → b' ≤ n
          → (b' < n → MeetsOne L.holds (slice_get s b') (can_go_on S g))
          → Tree L s n (ended k g) e b' r u' → r ≡ b'
      rest e n b' r u' l w t_ended_out = refl
      rest e n b' r u' l w (t_ended_last k o q) = absurd (apart_word g k n b' j l w o q)
      rest e n b' r u' l w (t_ended_in k o q x y) = absurd (apart_word g k n b' j l w o q)

      rest_partial : (e n b' : ℕ) → b' ≤ n
          → (b' < n → MeetsOne L.holds (slice_get s b') (can_go_on S g))
          → Partial L s n (ended k g) e b' → n ≤ b'
      rest_partial e n b' l w (p_none q) = omega arith
      rest_partial e n b' l w (p_whole x q) = omega (arith, rest e n b' _ _ l w x)
      rest_partial e n b' l w (p_ended_first k o q x) = absurd (apart_word g k n b' j l w o q)
      rest_partial e n b' l w (p_ended_more k o q x y) = absurd (apart_word g k n b' j l w o q)

      only : (e n r : ℕ) (v : Shape V) → SpeaksOf w d e → a ≤ n → n ≤ length s
          → Tree L s n (ended k g) e a r v
          → (r ≤ i) × (r < n → MeetsOne L.holds (slice_get s r) (can_go_on S (ended k g)))
          × (r < length s)
      only e' n r v z l' m t_ended_out = (
        omega (arith, Parts.found_forward L S fits s x, Parts.refused_forward L S fits s y),
        (λ y. inl e),
        l,
      )
      only e' n r v z l m (t_ended_last k o q) = (
        omega (
          arith,
          Trees.tree_moves L s S fits (length s) x.tree f,
          Parts.refused_forward L S
              fits s y,
        ),
        (λ y. inr (In-left L.holds (slice_get s (suc a)) (can_begin S g) _
            (Parts.begins L S fits s g f x))),
        omega (
          arith,
          Trees.tree_moves L s S fits (length s) x.tree f,
          Parts.found_inside L S fits s
              x,
        ),
      )
      only e' n r v z l m (t_ended_in {b = b'} {t = t'} {u = u'} k o q x' y') =
          let i = Trees.tree_inside L s n x' o in
          elim (x.only e' n b' t' o m x') [
            | same p q ↦ y.only e' n r u' z (omega (arith, p, i)) m
                (subst (λ o. Tree L s n (ended k g) e' o r u') p y')
            | before l' w ↦ let h = rest e' n b' r u' i w y' in (
              omega (arith, h, l', Parts.refused_forward L S fits s y),
              (λ z. subst (λ o. MeetsOne L.holds (slice_get s o) (can_go_on S (ended k g)))
                  (sym h) (inr (In-right L.holds (slice_get s b') (can_begin S g) _
                  (w (omega (arith, z, h)))))),
              omega (arith, h, l', Parts.found_inside L S fits s x),
            )
          ]

      most : (e n : ℕ) → SpeaksOf w d e → a ≤ n → n ≤ length s → Partial L s n (ended k g) e a
          → n ≤ i
      most e' n z l m (p_none q) =
          omega (arith, Parts.found_forward L S fits s x, Parts.refused_forward L S fits s y)
      most e' n z l m (p_whole x' q) = omega (arith, (only e' n _ _ z l m x').0)
      most e' n z l m (p_ended_first k o q x') =
          omega (arith, x.most e' n o m x', Parts.refused_forward L S fits s y)
      most e' n z l m (p_ended_more {b = b'} {t = t'} k o q x' y') =
          let h = Trees.tree_inside L s n x' o in
          elim (x.only e' n b' t' o m x') [
            | same p q ↦ y.most e' n z (omega (arith, p, h)) m
                (subst (λ o. Partial L s n (ended k g) e' o) p y')
            | before l' w ↦ omega (
              arith,
              l',
              Parts.refused_forward L S fits s y,
              rest_partial e' n
                  b' h w y',
            )
          ]

  -- what is read of the rest at a place completes a whole that was begun before: how its tree is
  -- wrapped
  pub record Context (whole rest : Grammar T P) (d a e b : ℕ) (wrap : Shape V
      → Shape V) : Type 0 where
    pub inside : b ≤ length s
    pub forward : a ≤ b
    pub on : (c : ℕ) (u : Shape V) → Found L S s rest e b c u → Found L S s whole d a c (wrap u)
    pub off : (i : ℕ) (w : Bool) → Refused L S s rest e b i w → Refused L S s whole d a i w

  -- the turns of a repetition so far
  pub record Turns (whole rest : Grammar T P) (d a b : ℕ) (ts : List (Shape V)) : Type 0 where
    pub inside : b ≤ length s
    pub forward : a ≤ b
    pub on : (c : ℕ) (u : Shape V) → Found L S s rest d b c u → Found L S s whole d a c (chain ts u)
    pub off : (i : ℕ) (w : Bool) → Refused L S s rest d b i w → Refused L S s whole d a i w

  pub turns_none : (g : Grammar T P) (d a : ℕ) → a ≤ length s → Turns g g d a a []
  turns_none g d a l = record {
    inside = l;
    forward = omega arith;
    on = λ c u x. x;
    off = λ i w x. x;
  }

  -- g, and then a repetition
  pub turns_first : {g rest : Grammar T P} {d a b : ℕ} {t : Shape V}
      → Apart L (can_go_on S g) (can_begin S rest) → Found L S s g d a b t
      → Turns (seq g rest) rest d a b (t ∷ [])
  turns_first j x = record {
    inside = Parts.found_inside L S fits s x;
    forward = Parts.found_forward L S fits s x;
    on = λ c u y. Parts.seq_found L S fits s j x y;
    off = λ i w y. Parts.seq_refused L S fits s j x y;
  }

  pub turns_more : {whole h : Grammar T P} {d a b c : ℕ} {ts : List (Shape V)} {t : Shape V}
      → Apart L (can_go_on S h) (can_begin S h) → can_be_empty S h ≡ false
      → Turns whole (rep h) d a b ts → Found L S s h d b c t
      → Turns whole (rep h) d a c (ts ++ t ∷ [])
  turns_more {whole} {h} {d} {a} {b} {c} {ts} {t} j f x y = record {
    inside = Parts.found_inside L S fits s y;
    forward = omega (arith, x.forward, Parts.found_forward L S fits s y);
    on = λ c' u z. subst (λ o. Found L S s whole d a c' o) (sym (chain_more ts t u))
        (x.on c' (both t u) (rep_in_found j f y z));
    off = λ i w z. x.off i w (rep_refused j f y z);
  }

  pub turns_ended : {whole h : Grammar T P} {d a b c : ℕ} {ts : List (Shape V)} {t : Shape V}
      (k : T) → Outside L k (can_go_on S h) → can_be_empty S h ≡ false → b < length s → At L s b k
      → Turns whole (ended k h) d a b ts → Found L S s h d (suc b) c t
      → Turns whole (ended k h) d a c (ts ++ t ∷ [])
  turns_ended {whole} {h} {d} {a} {b} {c} {ts} {t} k j f l e x y = record {
    inside = Parts.found_inside L S fits s y;
    forward = omega (arith, x.forward, Parts.found_forward L S fits s y);
    on = λ c' u z. subst (λ o. Found L S s whole d a c' o) (sym (chain_more ts t u))
        (x.on c' (both t u) (ended_in_found k j f l e y z));
    off = λ i w z. x.off i w (ended_refused k j f l e y z);
  }
