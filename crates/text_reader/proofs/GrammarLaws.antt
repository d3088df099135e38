-- The laws of grammars, in the form in which the functions of a parser need them.
use Rattle.std.proofs.Common.{◌≡◌, ℕ, zero, suc, ◌+◌, ◌-◌, ◌<◌, ◌≤◌, Bool, true, false}
use Rattle.std.proofs.Common.{List, [], ◌∷◌, ◌++◌, length, refl, sym, subst, arith}
use Rattle.std.proofs.Common.{add-one, inl, inr, ◌⊎◌, Option, Some, None, slice_get}
use Rattle.text_reader.specs.Grammar.{Language, At, Keeps, meets, Grammar, done, word}
use Rattle.text_reader.specs.Grammar.{token, here, skip, seq, alt, opt, rep, nearest}
use Rattle.text_reader.specs.Grammar.{ended, deeper, rule, one_of, when, Shape, pick}
use Rattle.text_reader.specs.Grammar.{nothing, leaf, placed, both, left, right, some}
use Rattle.text_reader.specs.Marks.{MeetsOne, Apart, Marks, can_be_empty}
use Rattle.text_reader.specs.Marks.{can_begin, can_go_on, Fits}
use Rattle.text_reader.specs.Findings.{Found, Refused}
use Rattle.text_reader.proofs.Members.{In-left, In-right}
use Rattle.text_reader.proofs.Members
use Rattle.text_reader.proofs.Parts
use Rattle.text_reader.proofs.Repeats
use Rattle.text_reader.proofs.Trees
use Rattle.std.proofs.lemmas.Option.{slice_get_past}

-- where a token meets a test, the place lies in the list
pub at_inside : {Token V T P : Type 0} (L : Language Token V T P) (s : List Token) (a : ℕ) (k : T)
    → At L s a k → a < length s
at_inside L s a k e = elim (lt_or_le a (length s)) [
  | inl l ↦ l
  | inr l ↦ let q : meets L.holds k None ≡ true = subst (λ o. meets L.holds k o ≡ true)
      (slice_get_past s a l) e in absurd cc
]
  where
    lt_or_le : (x y : ℕ) → (x < y) ⊎ (y ≤ x)
    lt_or_le x y = grind arith

pub some_inside : {Token V T P : Type 0} (L : Language Token V T P) (s : List Token) (a : ℕ)
    (ks : List T) → MeetsOne L.holds (slice_get s a) ks → a < length s
some_inside L s a [] h = elim h [ ]
some_inside L s a (k ∷ ks) (inl e) = at_inside L s a k e
some_inside L s a (k ∷ ks) (inr h) = some_inside L s a ks h

module _ {Token V T P : Type 0} {L : Language Token V T P} {S : Marks T P} (fits : Fits L S)
    {s : List Token} where
  pub done_found : {d a : ℕ} → a ≤ length s → Found L S s done d a a nothing
  done_found {d} {a} l = Parts.done_found L S fits s d a l

  pub word_found : {g : Grammar T P} {d a b : ℕ} {t : Shape V} {k : T} → At L s a k
      → Found L S s g d (a + 1) b t → Found L S s (word k g) d a b t
  word_found {g} {d} {a} {b} {t} {k} e h = Parts.word_found L S fits s k (at_inside L s a k e) e
      (subst (λ v. Found L S s g d v b t) (add-one a) h)

  pub word_end : {d a : ℕ} {k : T} → At L s a k → Found L S s (word k done) d a (a + 1) nothing
  word_end {d} {a} {k} e = let l = at_inside L s a k e in word_found e (done_found (omega arith))

  pub word_refused : {g : Grammar T P} {d a i : ℕ} {w : Bool} {k : T} → At L s a k
      → Refused L S s g d (a + 1) i w → Refused L S s (word k g) d a i w
  word_refused {g} {d} {a} {i} {w} {k} e h = Parts.word_refused L S fits s k (at_inside L s a k e) e
      (subst (λ v. Refused L S s g d v i w) (add-one a) h)

  pub token_found : {d a : ℕ} {v : V} {k : T} → At L s a k → Keeps L s a v
      → Found L S s (token k) d a (a + 1) (leaf v)
  token_found {d} {a} {v} {k} e z = subst (λ r. Found L S s (token k) d a r (leaf v))
      (sym (add-one a)) (Parts.token_found L S fits s d v k (at_inside L s a k e) e z)

  pub here_found : {g : Grammar T P} {d a b : ℕ} {t : Shape V} → Found L S s g d a b t
      → Found L S s (here g) d a b (placed a t)
  here_found h = Parts.here_found L S fits s h

  pub here_refused : {g : Grammar T P} {d a i : ℕ} {w : Bool} → Refused L S s g d a i w
      → Refused L S s (here g) d a i w
  here_refused h = Parts.here_refused L S fits s h

  pub skip_found : {g : Grammar T P} {d a b : ℕ} {t : Shape V} → Found L S s g d a b t
      → Found L S s (skip g) d a b nothing
  skip_found h = Parts.skip_found L S fits s h

  pub skip_refused : {g : Grammar T P} {d a i : ℕ} {w : Bool} → Refused L S s g d a i w
      → Refused L S s (skip g) d a i w
  skip_refused h = Parts.skip_refused L S fits s h

  pub rule_found : {p : P} {d a b : ℕ} {t : Shape V} → Found L S s (L.production p) d a b t
      → Found L S s (rule p) d a b t
  rule_found h = Parts.rule_found L S fits s h

  pub rule_refused : {p : P} {d a i : ℕ} {w : Bool} → Refused L S s (L.production p) d a i w
      → Refused L S s (rule p) d a i w
  rule_refused h = Parts.rule_refused L S fits s h

  pub seq_found : {g h : Grammar T P} {d a b c : ℕ} {t u : Shape V}
      → Apart L (can_go_on S g) (can_begin S h) → Found L S s g d a b t → Found L S s h d b c u
      → Found L S s (seq g h) d a c (both t u)
  seq_found j x y = Parts.seq_found L S fits s j x y

  pub seq_refused_first : {g h : Grammar T P} {d a i : ℕ} {w : Bool}
      → Apart L (can_go_on S g) (can_begin S h) → Refused L S s g d a i w
      → Refused L S s (seq g h) d a i w
  seq_refused_first {g} {h} j x = Parts.seq_refused_first L S fits s h j x

  pub seq_refused : {g h : Grammar T P} {d a b i : ℕ} {t : Shape V} {w : Bool}
      → Apart L (can_go_on S g) (can_begin S h) → Found L S s g d a b t → Refused L S s h d b i w
      → Refused L S s (seq g h) d a i w
  seq_refused j x y = Parts.seq_refused L S fits s j x y

  pub left_found : {g h : Grammar T P} {d a b : ℕ} {t : Shape V}
      → Apart L (can_begin S g) (can_begin S h) → can_be_empty S g ≡ false
      → can_be_empty S h ≡ false → Found L S s g d a b t → Found L S s (alt g h) d a b (left t)
  left_found {g} {h} j e f x = Parts.left_found L S fits s h j e f x

  pub right_found : {g h : Grammar T P} {d a b : ℕ} {t : Shape V}
      → Apart L (can_begin S g) (can_begin S h) → can_be_empty S g ≡ false
      → can_be_empty S h ≡ false → Found L S s h d a b t → Found L S s (alt g h) d a b (right t)
  right_found {g} {h} j e f x = Parts.right_found L S fits s g j e f x

  -- the token chooses the alternative
  pub left_refused : {g h : Grammar T P} {d a i : ℕ} {w : Bool}
      → Apart L (can_begin S g) (can_begin S h) → can_be_empty S h ≡ false
      → MeetsOne L.holds (slice_get s a) (can_begin S g) → Refused L S s g d a i w
      → Refused L S s (alt g h) d a i w
  left_refused {g} {h} j f e x = Parts.left_refused L S fits s h j e f x

  pub right_refused : {g h : Grammar T P} {d a i : ℕ} {w : Bool}
      → Apart L (can_begin S g) (can_begin S h) → can_be_empty S g ≡ false
      → MeetsOne L.holds (slice_get s a) (can_begin S h) → Refused L S s h d a i w
      → Refused L S s (alt g h) d a i w
  right_refused {g} {h} j f e x = Parts.right_refused L S fits s g j e f x

  -- the token cannot begin the other alternative
  pub left_refused_else : {g h : Grammar T P} {d a i : ℕ} {w : Bool}
      → (MeetsOne L.holds (slice_get s a) (can_begin S h) → ⊥) → can_be_empty S h ≡ false
      → Refused L S s g d a i w → Refused L S s (alt g h) d a i w
  left_refused_else {g} {h} k f x = Parts.left_refused_else L S fits s h k f x

  pub opt_found : {g : Grammar T P} {d a b : ℕ} {t : Shape V} → can_be_empty S g ≡ false
      → Found L S s g d a b t → Found L S s (opt g) d a b (some t)
  opt_found e x = Parts.opt_in_found L S fits s e x

  pub opt_out : {g : Grammar T P} {d a : ℕ} → can_be_empty S g ≡ false → a ≤ length s
      → (MeetsOne L.holds (slice_get s a) (can_begin S g) → ⊥) → Found L S s (opt g) d a a nothing
  opt_out {g} {d} {a} e l n = Parts.opt_out_found L S fits s g d a e l n

  pub opt_refused : {g : Grammar T P} {d a i : ℕ} {w : Bool}
      → MeetsOne L.holds (slice_get s a) (can_begin S g) → Refused L S s g d a i w
      → Refused L S s (opt g) d a i w
  opt_refused {g} {a = a} e x = Parts.opt_refused L S fits s (some_inside L s a (can_begin S g) e) e
      x

  pub rep_out : {g : Grammar T P} {d a : ℕ} → can_be_empty S g ≡ false → a ≤ length s
      → (MeetsOne L.holds (slice_get s a) (can_begin S g) → ⊥) → Found L S s (rep g) d a a nothing
  rep_out {g} {d} {a} e l n = Repeats.rep_out_found L S fits s g d a e l n

  pub rep_refused : {g : Grammar T P} {d a i : ℕ} {w : Bool}
      → Apart L (can_go_on S g) (can_begin S g) → MeetsOne L.holds (slice_get s a) (can_begin S g)
      → Refused L S s g d a i w → Refused L S s (rep g) d a i w
  rep_refused {g} {a = a} j e x = Repeats.rep_refused_first L S fits s j
      (some_inside L s a (can_begin S g) e) e x

  pub deeper_found : {g : Grammar T P} {d a b : ℕ} {t : Shape V} → 0 < d
      → Found L S s g (d - 1) a b t → Found L S s (deeper g) d a b t
  deeper_found {g} {d} {a} {b} {t} l h = let e : suc (d - 1) ≡ d = omega arith in subst
      (λ v. Found L S s (deeper g) v a b t) e (Parts.deeper_found L S fits s h)

  pub deeper_refused : {g : Grammar T P} {d a i : ℕ} {w : Bool} → 0 < d
      → Refused L S s g (d - 1) a i w → Refused L S s (deeper g) d a i w
  deeper_refused {g} {d} {a} {i} {w} l h = let e : suc (d - 1) ≡ d = omega arith in subst
      (λ v. Refused L S s (deeper g) v a i w) e (Parts.deeper_refused L S fits s h)

  pub too_deep : {g : Grammar T P} {d a : ℕ} {k : T} → d ≡ 0 → At L s a k
      → Refused L S s (deeper (word k g)) d a a true
  too_deep {g} {d} {a} {k} z e = subst (λ v. Refused L S s (deeper (word k g)) v a a true) (sym z)
      (Parts.too_deep L S fits s g k (at_inside L s a k e) e)

  -- a token that cannot begin it
  pub refused_here : {g : Grammar T P} {d a : ℕ} → can_be_empty S g ≡ false → a ≤ length s
      → (MeetsOne L.holds (slice_get s a) (can_begin S g) → ⊥) → Refused L S s g d a a false
  refused_here {g} {d} {a} f l h = Parts.refused_here L S fits s g d a f l h

  pub nearest_found : {g : Grammar T P} {d a b : ℕ} {t : Shape V} {k : T} → At L s a k
      → Found L S s g d (a + 1) b t → Found L S s (nearest k g) d a b (some t)
  nearest_found {g} {d} {a} {b} {t} {k} e h = Repeats.nearest_in_found L S fits s k
      (at_inside L s a k e) e (subst (λ v. Found L S s g d v b t) (add-one a) h)

  pub nearest_refused : {g : Grammar T P} {d a i : ℕ} {w : Bool} {k : T} → At L s a k
      → Refused L S s g d (a + 1) i w → Refused L S s (nearest k g) d a i w
  nearest_refused {g} {d} {a} {i} {w} {k} e h = Repeats.nearest_refused L S fits s k
      (at_inside L s a k e) e (subst (λ v. Refused L S s g d v i w) (add-one a) h)

  pub nearest_out : {g : Grammar T P} {d a : ℕ} {k : T} → a ≤ length s → (At L s a k → ⊥)
      → Found L S s (nearest k g) d a a nothing
  nearest_out {g} {d} {a} {k} l h = Repeats.nearest_out_found L S fits s g k d a l h

  pub ended_out : {g : Grammar T P} {d a : ℕ} {k : T} → a ≤ length s → (At L s a k → ⊥)
      → Found L S s (ended k g) d a a nothing
  ended_out {g} {d} {a} {k} l h = Repeats.ended_out_found L S fits s g k d a l h

  pub ended_last : {g : Grammar T P} {d a : ℕ} {k : T} → can_be_empty S g ≡ false → At L s a k
      → (MeetsOne L.holds (slice_get s (a + 1)) (can_begin S g) → ⊥)
      → Found L S s (ended k g) d a (a + 1) nothing
  ended_last {g} {d} {a} {k} f e h = subst (λ v. Found L S s (ended k g) d a v nothing)
      (sym (add-one a)) (Repeats.ended_last_found L S fits s g k d a f (at_inside L s a k e) e
      (subst (λ v. MeetsOne L.holds (slice_get s v) (can_begin S g) → ⊥) (add-one a) h))

  pub ended_refused : {g : Grammar T P} {d a i : ℕ} {w : Bool} {k : T}
      → Apart L (k ∷ []) (can_go_on S g) → At L s a k
      → MeetsOne L.holds (slice_get s (a + 1)) (can_begin S g) → Refused L S s g d (a + 1) i w
      → Refused L S s (ended k g) d a i w
  ended_refused {g} {d} {a} {i} {w} {k} o e m h = Repeats.ended_refused_first L S fits s k
      (λ v q m. o.none_meets v (inl q) m) (at_inside L s a k e) e (let l = some_inside L s (a + 1)
      (can_begin S g) m in omega arith)
      (subst (λ v. MeetsOne L.holds (slice_get s v) (can_begin S g)) (add-one a) m)
      (subst (λ v. Refused L S s g d v i w) (add-one a) h)

  pub moves : {g : Grammar T P} {d a b : ℕ} {t : Shape V} → can_be_empty S g ≡ false
      → Found L S s g d a b t → a < b
  moves f h = Trees.tree_moves L s S fits (length s) h.tree f

  pub forward : {g : Grammar T P} {d a b : ℕ} {t : Shape V} → Found L S s g d a b t
      → (a ≤ b) × (b ≤ length s)
  forward h = (Parts.found_forward L S fits s h, Parts.found_inside L S fits s h)

-- an alternative that is there
pub when_found : {Token V T P : Type 0} {L : Language Token V T P} {S : Marks T P} {s : List Token}
    {g : Grammar T P} {w : Bool} {d a b : ℕ} {t : Shape V} → w ≡ true → Found L S s g d a b t
    → Found L S s (when w g) d a b t
when_found {L = L} {S} {s} {g} {w} {d} {a} {b} {t} e h = subst (λ v. Found L S s (when v g) d a b t)
    (sym e) h

pub when_refused : {Token V T P : Type 0} {L : Language Token V T P} {S : Marks T P}
    {s : List Token} {g : Grammar T P} {w : Bool} {d a i : ℕ} {z : Bool} → w ≡ true
    → Refused L S s g d a i z → Refused L S s (when w g) d a i z
when_refused {L = L} {S} {s} {g} {w} {d} {a} {i} {z} e h =
    subst (λ v. Refused L S s (when v g) d a i z) (sym e) h

pub when_solid : {T P : Type 0} (S : Marks T P) (w : Bool) (g : Grammar T P)
    → can_be_empty S g ≡ false → can_be_empty S (when w g) ≡ false
when_solid S true g e = e
when_solid S false g e = refl

pub when_meets : {Token T P : Type 0} (h : T → Token → Bool) (S : Marks T P) (w : Bool)
    (g : Grammar T P) (o : Option Token) → w ≡ true → MeetsOne h o (can_begin S g)
    → MeetsOne h o (can_begin S (when w g))
when_meets h S true g o e m = m
when_meets h S false g o e m = cc

-- what begins it, and that it is there
pub when_begins : {Token T P : Type 0} (h : T → Token → Bool) (S : Marks T P) (w : Bool)
    (g : Grammar T P) (o : Option Token) → MeetsOne h o (can_begin S (when w g))
    → (w ≡ true) × MeetsOne h o (can_begin S g)
when_begins h S true g o m = (refl, m)
when_begins h S false g o m = elim m [ ]

-- no token goes on after it
abbrev pub IsClosed : {Token V T P : Type 0} → Language Token V T P → Marks T P → Grammar T P
    → Type 0
IsClosed {Token} L S g = (o : Option Token) → MeetsOne L.holds o (can_go_on S g) → ⊥

module _ {Token V T P : Type 0} (L : Language Token V T P) (S : Marks T P) where
  pub closed_apart : (g : Grammar T P) (ys : List T) → IsClosed L S g → Apart L (can_go_on S g) ys
  closed_apart g ys c = record { none_meets = λ o h w. c o h }

  pub closed_alt : (g h : Grammar T P) → IsClosed L S g → IsClosed L S h → IsClosed L S (alt g h)
  closed_alt g h c e o m = elim (Members.In-split L.holds o (can_go_on S g) (can_go_on S h) m) [
    | inl q ↦ c o q
    | inr q ↦ e o q
  ]

  pub closed_when : (w : Bool) (g : Grammar T P) → IsClosed L S g → IsClosed L S (when w g)
  closed_when true g c = c
  closed_when false g c = λ o m. m

  pub closed_one_of : {A : Type 0} (f : A → Grammar T P) (xs : List A)
      → ((x : A) → IsClosed L S (f x)) → IsClosed L S (one_of f xs)
  closed_one_of f [] c = λ o m. m
  closed_one_of f (x ∷ xs) c = closed_alt (f x) (one_of f xs) (c x) (closed_one_of f xs c)

-- The alternatives of a list: each takes a token, and no token begins two of them.
module _ {Token V T P : Type 0} (L : Language Token V T P) (S : Marks T P) where
  pub one_of_solid : {A : Type 0} (f : A → Grammar T P) (xs : List A)
      → ((x : A) → can_be_empty S (f x) ≡ false) → can_be_empty S (one_of f xs) ≡ false
  one_of_solid f [] h = refl
  one_of_solid f (x ∷ xs) h = rw (h x) (one_of_solid f xs h)

  -- what begins one of them begins the one at some place
  pub one_of_begins : {A : Type 0} (f : A → Grammar T P) (xs : List A) (o : Option Token)
      → MeetsOne L.holds o (can_begin S (one_of f xs)) → (i : ℕ) × (x : A)
      × (slice_get xs i ≡ Some x) × MeetsOne L.holds o (can_begin S (f x))
  one_of_begins f [] o h = elim h [ ]
  one_of_begins f (x ∷ xs) o h = elim (apart_at (can_begin S (f x)) (can_begin S (one_of f xs)) h) [
    | inl q ↦ (0, x, refl, q)
    | inr q ↦ let r = one_of_begins f xs o q in (suc r.0, r.1, r.2, r.3)
  ]
    where
      apart_at : (ks js : List T) → MeetsOne L.holds o (ks ++ js)
          → MeetsOne L.holds o ks ⊎ MeetsOne L.holds o js
      apart_at [] js h = inr h
      apart_at (k ∷ ks) js (inl e) = inl (inl e)
      apart_at (k ∷ ks) js (inr h) = elim (apart_at ks js h) [ inl q ↦ inl (inr q) | inr q ↦ inr q ]

  pub one_of_meets : {A : Type 0} (f : A → Grammar T P) (xs : List A) (i : ℕ) (x : A)
      (o : Option Token) → slice_get xs i ≡ Some x → MeetsOne L.holds o (can_begin S (f x))
      → MeetsOne L.holds o (can_begin S (one_of f xs))
  one_of_meets f [] i x o e h = absurd cc
  one_of_meets f (y ∷ ys) zero x o e h = let q : y ≡ x = cc in In-left L.holds o (can_begin S (f y))
      _ (subst (λ v. MeetsOne L.holds o (can_begin S (f v))) (sym q) h)
  one_of_meets f (y ∷ ys) (suc i) x o e h = In-right L.holds o (can_begin S (f y)) _
      (one_of_meets f ys i x o e h)

-- no token begins two alternatives of a list
abbrev pub IsDistinct : {A Token V T P : Type 0} → Language Token V T P → Marks T P
    → (A → Grammar T P) → List A → Type 0
IsDistinct {A} {Token} L S f xs = (o : Option Token) (i j : ℕ) (x y : A) → slice_get xs i ≡ Some x
    → slice_get xs j ≡ Some y → MeetsOne L.holds o (can_begin S (f x))
    → MeetsOne L.holds o (can_begin S (f y)) → i ≡ j

module _ {Token V T P A : Type 0} (L : Language Token V T P) (S : Marks T P) (f : A
    → Grammar T P) where
  rest_distinct : (y : A) (ys : List A) → IsDistinct L S f (y ∷ ys) → IsDistinct L S f ys
  rest_distinct y ys h o i j x x' e e' m m' = let q = h o (suc i) (suc j) x x' e e' m m' in omega
      (arith, q)

  head_apart : (y : A) (ys : List A) → IsDistinct L S f (y ∷ ys)
      → Apart L (can_begin S (f y)) (can_begin S (one_of f ys))
  head_apart y ys h = record {
    none_meets = λ o m w. let r = one_of_begins L S f ys o w in let q = h o 0 (suc r.0) y r.1 refl
        r.2 m r.3 in absurd (omega (arith, q));
  }

module _ {Token V T P : Type 0} {L : Language Token V T P} {S : Marks T P} (fits : Fits L S)
    {s : List Token} {A : Type 0} (f : A → Grammar T P) (solid : (x : A)
    → can_be_empty S (f x) ≡ false) where
  pub one_of_found : (xs : List A) (i : ℕ) (x : A) {d a b : ℕ} {t : Shape V} → IsDistinct L S f xs
      → slice_get xs i ≡ Some x → Found L S s (f x) d a b t
      → Found L S s (one_of f xs) d a b (pick i t)
  one_of_found [] i x h e y = absurd cc
  one_of_found (z ∷ zs) zero x {d} {a} {b} {t} h e y = let q : z ≡ x = cc in left_found fits
      (head_apart L S f z zs h) (solid z) (one_of_solid L S f zs solid)
      (subst (λ v. Found L S s (f v) d a b t) (sym q) y)
  one_of_found (z ∷ zs) (suc i) x h e y = right_found fits (head_apart L S f z zs h) (solid z)
      (one_of_solid L S f zs solid) (one_of_found zs i x (rest_distinct L S f z zs h) e y)

  pub one_of_refused : (xs : List A) (i : ℕ) (x : A) {d a j : ℕ} {w : Bool} → IsDistinct L S f xs
      → slice_get xs i ≡ Some x → MeetsOne L.holds (slice_get s a) (can_begin S (f x))
      → Refused L S s (f x) d a j w → Refused L S s (one_of f xs) d a j w
  one_of_refused [] i x h e m y = absurd cc
  one_of_refused (z ∷ zs) zero x {d} {a} {j} {w} h e m y = let q : z ≡ x = cc in left_refused fits
      (head_apart L S f z zs h) (one_of_solid L S f zs solid)
      (subst (λ v. MeetsOne L.holds (slice_get s a) (can_begin S (f v))) (sym q) m)
      (subst (λ v. Refused L S s (f v) d a j w) (sym q) y)
  one_of_refused (z ∷ zs) (suc i) x {a = a} h e m y = right_refused fits (head_apart L S f z zs h)
      (solid z) (one_of_meets L S f zs i x (slice_get s a) e m)
      (one_of_refused zs i x (rest_distinct L S f z zs h) e m y)

-- the turns of a loop
abbrev pub Turns : {Token V T P : Type 0} (L : Language Token V T P) (S : Marks T P) → Fits L S
    → List Token → (whole rest : Grammar T P) → ℕ → ℕ → ℕ → List (Shape V) → Type 0
Turns L S fits s whole rest d a b ts = Repeats.Turns L S fits s whole rest d a b ts

module _ {Token V T P : Type 0} {L : Language Token V T P} {S : Marks T P} (fits : Fits L S)
    {s : List Token} where
  pub turns_none : {g : Grammar T P} {d a : ℕ} → a ≤ length s → Turns L S fits s g g d a a []
  turns_none {g} {d} {a} l = Repeats.turns_none L S fits s g d a l

  pub turns_first : {g rest : Grammar T P} {d a b : ℕ} {t : Shape V}
      → Apart L (can_go_on S g) (can_begin S rest) → Found L S s g d a b t
      → Turns L S fits s (seq g rest) rest d a b (t ∷ [])
  turns_first j x = Repeats.turns_first L S fits s j x

  pub turns_more : {whole h : Grammar T P} {d a b c : ℕ} {ts : List (Shape V)} {t : Shape V}
      → Apart L (can_go_on S h) (can_begin S h) → can_be_empty S h ≡ false
      → Turns L S fits s whole (rep h) d a b ts → Found L S s h d b c t
      → Turns L S fits s whole (rep h) d a c (ts ++ t ∷ [])
  turns_more j f x y = Repeats.turns_more L S fits s j f x y

  -- one more turn of { k h } [ k ]
  pub turns_ended : {whole h : Grammar T P} {k : T} {d a b c : ℕ} {ts : List (Shape V)}
      {t : Shape V} → Apart L (k ∷ []) (can_go_on S h) → can_be_empty S h ≡ false → At L s b k
      → Turns L S fits s whole (ended k h) d a b ts → Found L S s h d (b + 1) c t
      → Turns L S fits s whole (ended k h) d a c (ts ++ t ∷ [])
  turns_ended {h = h} {k} {d} {b = b} {c} {t = t} o f e x y = Repeats.turns_ended L S fits s k
      (λ v q m. o.none_meets v (inl q) m) f (at_inside L s b k e) e x
      (subst (λ v. Found L S s h d v c t) (add-one b) y)
