-- From what the parts of a reader do to what the whole does.
use Rattle.std.proofs.Common.{◌≡◌, ℕ, zero, suc, ◌-◌, ◌≤◌, Bool, true, false, List, [], ◌∷◌, length}
use Rattle.std.proofs.Common.{refl, sym, ◌∙◌, inl, inr, subst, arith, slice_get, not, ◌&&◌, map}
use Rattle.est_lexer.specs.declared.kind.Token.{Token}
use Rattle.est_lexer.specs.declared.tokens.Tokens.{Tokens}
use Rattle.est_lexer.specs.Offsets.{text_of, tokens_of}
use Rattle.text_reader.specs.Grammar.{done, none, word, token, here, skip, seq, alt, opt}
use Rattle.text_reader.specs.Grammar.{rep, nearest, ended, deeper, rule, nothing, placed}
use Rattle.text_reader.specs.Grammar.{both, left, right, some, Language, Tree, t_seq}
use Rattle.text_reader.specs.Marks.{MeetsOne, Fits, can_begin, can_go_on, can_be_empty}
use Rattle.text_reader.specs.Marks.{disjoint, covered, implies_one}
use Rattle.text_reader.specs.Findings.{Found}
use Rattle.text_reader.specs.Shown.{Shows, empty, at, pair, first, second, given, node, nodes}
use Rattle.text_reader.specs.Shown.{s_empty, s_at, s_pair, s_first, s_second, s_given, s_node}
use Rattle.text_reader.proofs.GrammarLaws as laws
use Rattle.text_reader.proofs.Members.{among, and_left, and_right}
use Rattle.text_reader.specs.declared.reader.Reader.{Reader}
use Rattle.text_reader.specs.declared.outcome.Outcome.{Outcome}
use Rattle.text_reader.specs.declared.outcome.Outcome.TheVariants.{Well, Wrong, TooDeep, NoMemory}
use Rattle.text_reader.specs.Tests.{Test, Kept, holds, stands, apart, implies, language}
use Rattle.text_reader.specs.Moving.{bit, Does, Sees, NoneSeen, Same, Taken}
use Rattle.text_reader.specs.Moving.{NotThere, Takes, OpensAt, Opens, Closes, Still}
use Rattle.text_reader.specs.Going.{Rule, Shape, View, Syntax, Finds, Fails, Goes}
use Rattle.text_reader.proofs.Apart.{far, near, implies-holds}
use Rattle.text_reader.proofs.Steps.{onto, after, stay, was_well, sees_well, sees_it}
use Rattle.text_reader.proofs.Steps.{sees_not, none_meets, same_here, same_on, bit_small}

-- What holds whatever is known of the productions.
module _ {P N : Type 0} {X : Syntax P N} where
  -- what a later reader does, told of the tokens and levels of an earlier one
  pub from : {A B C : Reader} {h : Rule P} {v : View N} → Same A B → Goes X h B v C
      → Does (Finds X A.tokens.now h A.levels B.at v) (Fails X A.tokens.now h A.levels B.at) B.at
      B.outcome C.at C.outcome
  from {A} {B} {C} {h} {v} s y =
      subst (λ d. Does (Finds X A.tokens.now h d B.at v) (Fails X A.tokens.now h d B.at) B.at
      B.outcome C.at C.outcome) s.levels
      (subst (λ ts. Does (Finds X ts h B.levels B.at v) (Fails X ts h B.levels B.at) B.at B.outcome
      C.at C.outcome) s.tokens y.moves)

  -- a production, a place, and what leaves no trace
  pub goes_onto : {g h : Rule P} {A B : Reader} {v w : View N}
      → (A.outcome ≡ Well → Finds X A.tokens.now g A.levels A.at v B.at
      → Finds X A.tokens.now h A.levels A.at w B.at)
      → (A.outcome ≡ Well → (z : Bool) → Fails X A.tokens.now g A.levels A.at B.at z
      → Fails X A.tokens.now h A.levels A.at B.at z)
      → Goes X g A v B → Goes X h A w B
  goes_onto {g} {h} {A} {B} {v} {w} f r x = record {
    moves = onto (Finds X A.tokens.now g A.levels A.at v) (Finds X A.tokens.now h A.levels A.at w)
        (Fails X A.tokens.now g A.levels A.at) (Fails X A.tokens.now h A.levels A.at) A.at B.at
        A.outcome B.outcome f r x.moves;
    same = x.same;
  }

  pub goes_still : {g : Rule P} {A B C : Reader} {v w : View N} → Goes X g A v B → Still B C
      → (C.outcome ≡ Well → v ≡ w) → Goes X g A w C
  goes_still {g} {A} {B} {C} {v} {w} x s q =
      let tk = A.tokens.now in
      record {
        moves = after (Finds X tk g A.levels A.at v) (λ i. i ≡ B.at) (Finds X tk g A.levels A.at w)
            (Fails X tk g A.levels A.at) (λ i z. ⊥) (Fails X tk g A.levels A.at) A.at B.at C.at
            A.outcome B.outcome C.outcome
            (λ e p r. subst (λ u. Finds X tk g A.levels A.at u C.at) (q e)
            (subst (λ i. Finds X tk g A.levels A.at v i) (sym r) p))
            (λ e z p r. absurd r)
            (λ e z p. p)
            x.moves s.stays;
        same = same_on x.same s.same;
      }

  -- the view of a part is its X.layer
  pub part : {n : N} {g : Rule P} {A B : Reader} {v : View N} → X.layer n ≡ v → Goes X g A v B
      → Goes X g A (node n) B
  part {n} {g} {A} {B} {v} e x =
      goes_onto (λ w q. (q.0, q.1, s_node (subst (λ u. Shows X.layer u q.0) (sym e) q.2)))
      (λ w z q. q) x

  -- a part whose last items are put in when all of it is read
  pub part_still : {n : N} {g : Rule P} {A B C : Reader} {v : View N} → Goes X g A v B → Still B C
      → (C.outcome ≡ Well → X.layer n ≡ v) → Goes X g A (node n) C
  part_still x s q = part refl (goes_still x s (λ e. sym (q e)))

  pub went_well : {g : Rule P} {A B : Reader} {v : View N} → Goes X g A v B → B.outcome ≡ Well
      → A.outcome ≡ Well
  went_well {g} {A} {B} {v} x e = was_well (Finds X A.tokens.now g A.levels A.at v)
      (Fails X A.tokens.now g A.levels A.at) A.at B.at A.outcome B.outcome x.moves e

  -- a list whose first item is read is not empty
  pub filled : {I : Type 0} (part : I → N) (is : List I) {g h : Rule P} {A B : Reader}
      → Goes X (seq g h) A (nodes (map part is)) B → B.outcome ≡ Well → (i : I) × (rest : List I)
      × (is ≡ i ∷ rest)
  filled {I} part is {g} {h} {A} {B} x w = of_tree (found A.outcome B.outcome w x.moves)
    where
      found : (o o' : Outcome) → o' ≡ Well
          → Does (Finds X A.tokens.now (seq g h) A.levels A.at (nodes (map part is)))
          (Fails X A.tokens.now (seq g h) A.levels A.at) A.at o B.at o'
          → Finds X A.tokens.now (seq g h) A.levels A.at (nodes (map part is)) B.at
      found Well Well e m = m
      found Well Wrong e m = absurd cc
      found Well TooDeep e m = absurd cc
      found Well NoMemory e m = absurd cc
      found Wrong o' e m = absurd (let f : o' ≡ Wrong = m.0 in cc)
      found TooDeep o' e m = absurd (let f : o' ≡ TooDeep = m.0 in cc)
      found NoMemory o' e m = absurd (let f : o' ≡ NoMemory = m.0 in cc)

      some_item : (js : List I) (t u : Shape) → Shows X.layer (nodes (map part js)) (both t u)
          → (i : I) × (rest : List I) × (js ≡ i ∷ rest)
      some_item [] t u s = elim s [ ]
      some_item (i ∷ rest) t u s = (i, rest, refl)

      of_shape : {L : Language Token Kept Test P} {s : List Token} {n a b : ℕ} {t : Shape}
          → Tree L s n (seq g h) A.levels a b t → Shows X.layer (nodes (map part is)) t
          → (i : I) × (rest : List I) × (is ≡ i ∷ rest)
      of_shape (t_seq {t = t} {u = u} p q) y = some_item is t u y

      of_tree : Finds X A.tokens.now (seq g h) A.levels A.at (nodes (map part is)) B.at
          → (i : I) × (rest : List I) × (is ≡ i ∷ rest)
      of_tree f = of_shape f.1.tree f.2

-- A syntax, and that the table of its productions says enough of each, whatever the text.
pub record Known (P N : Type 0) : Type 0 where
  pub syntax : Syntax P N
  pub fits : (text : List ℕ) → Fits (language syntax.production text) syntax.marks

-- What rests on what is known of each production.
module _ {P N : Type 0} (K : Known P N) where
  -- the token that is seen begins g
  pub begins_it : {A : Reader} {k : Test} (ks : List Test) → implies_one implies k ks ≡ true
      → Sees A k true → MeetsOne (holds (text_of A.tokens.now)) (slice_get (tokens_of A.tokens.now)
      A.at) ks
  begins_it {A} {k} ks e x = among (language K.syntax.production (text_of A.tokens.now)) implies
      (λ a b v h p. implies-holds (text_of A.tokens.now) a b v h p)
      (slice_get (tokens_of A.tokens.now) A.at) k ks e (sees_it x)

  pub begins_not : (A : Reader) (ks ls : List Test) → covered implies ks ls ≡ true → NoneSeen A ls
      → A.outcome ≡ Well → MeetsOne (holds (text_of A.tokens.now))
      (slice_get (tokens_of A.tokens.now) A.at) ks → ⊥
  begins_not A ks ls e n w m = none_meets A ls w n (near K.syntax.production (text_of A.tokens.now)
      ks ls e (slice_get (tokens_of A.tokens.now) A.at) m)

  -- a token that cannot begin it
  pub not_there : (tokens : Tokens) (g : Rule P) (k : Test) (d a b : ℕ) (z : Bool)
      → can_be_empty K.syntax.marks g ≡ false → can_begin K.syntax.marks g ≡ k ∷ []
      → a ≤ length (tokens_of tokens) → NotThere tokens k a b z → Fails K.syntax tokens g d a b z
  not_there tokens g k d a b z f q l n =
      subst (λ w. Fails K.syntax tokens g d a b w) (sym n.2)
      (subst (λ i. Fails K.syntax tokens g d a i false) (sym n.1)
      (laws.refused_here (K.fits (text_of tokens)) f l
      (λ m. only (subst (λ ks. MeetsOne (holds (text_of tokens)) (slice_get (tokens_of tokens)
      a) ks) q m))))
    where
      only : MeetsOne (holds (text_of tokens)) (slice_get (tokens_of tokens) a) (k ∷ []) → ⊥
      only (inl e) = let w : stands tokens a k ≡ false = n.0 in cc
      only (inr e) = e

  -- one, and then the other
  pub then : {g h : Rule P} {A B C : Reader} {v w : View N}
      → disjoint apart (can_go_on K.syntax.marks g) (can_begin K.syntax.marks h) ≡ true
      → Goes K.syntax g A v B → Goes K.syntax h B w C → Goes K.syntax (seq g h) A (pair v w) C
  then {g} {h} {A} {B} {C} {v} {w} j x y =
      let tk = A.tokens.now in let F = K.fits (text_of tk) in let D = far K.syntax.production
      (text_of tk) (can_go_on K.syntax.marks g) (can_begin K.syntax.marks h) j in
      record {
        moves = after (Finds K.syntax tk g A.levels A.at v) (Finds K.syntax tk h A.levels B.at w)
            (Finds K.syntax tk (seq g h) A.levels A.at (pair v w))
            (Fails K.syntax tk g A.levels A.at) (Fails K.syntax tk h A.levels B.at)
            (Fails K.syntax tk (seq g h) A.levels A.at) A.at B.at C.at A.outcome B.outcome
            C.outcome
            (λ e p q. (both p.0 q.0, laws.seq_found F D p.1 q.1, s_pair p.2 q.2))
            (λ e z p q. laws.seq_refused F D p.1 q)
            (λ e z q. laws.seq_refused_first F D q)
            x.moves (from x.same y);
        same = same_on x.same y.same;
      }

  -- a token, and then the rest
  pub take : {k : Test} {h : Rule P} {A B C : Reader} {v : View N} → Takes k A B
      → Goes K.syntax h B v C → Goes K.syntax (word k h) A v C
  take {k} {h} {A} {B} {C} {v} x y =
      let tk = A.tokens.now in let F = K.fits (text_of tk) in
      record {
        moves = after (Taken tk k A.at) (Finds K.syntax tk h A.levels B.at v)
            (Finds K.syntax tk (word k h) A.levels A.at v)
            (NotThere tk k A.at) (Fails K.syntax tk h A.levels B.at) (Fails K.syntax tk (word k h)
            A.levels A.at) A.at B.at C.at A.outcome B.outcome C.outcome
            (λ e p q. (
              q.0,
              laws.word_found F p.0
                  (subst (λ i. Found (language K.syntax.production (text_of tk)) K.syntax.marks
                  (tokens_of tk) h A.levels i C.at q.0) p.1 q.1),
              q.2,
            ))
            (λ e z p q. laws.word_refused F p.0 (subst (λ i. Fails K.syntax tk h A.levels i C.at z)
            p.1 q))
            (λ e z q. not_there tk (word k h) k A.levels A.at B.at z refl refl A.inside q)
            x.takes (from x.same y);
        same = same_on x.same y.same;
      }

  -- nothing more
  pub none_goes : {A : Reader} → Goes K.syntax done A empty A
  none_goes {A} = record {
    moves = stay (Finds K.syntax A.tokens.now done A.levels A.at empty) (Fails K.syntax A.tokens.now
        done A.levels A.at) A.at A.outcome
        (λ w. (nothing, laws.done_found (K.fits (text_of A.tokens.now)) A.inside, s_empty));
    same = same_here;
  }

  pub last : {k : Test} {A B : Reader} → Takes k A B → Goes K.syntax (word k done) A empty B
  last {k} {A} {B} x = take x none_goes

  pub rule_goes : {p : P} {A B : Reader} {v : View N} → Goes K.syntax (K.syntax.production p) A v B
      → Goes K.syntax (rule p) A v B
  rule_goes {p} {A} {B} {v} x = let F = K.fits (text_of A.tokens.now) in goes_onto
      (λ e q. (q.0, laws.rule_found F q.1, q.2)) (λ e z q. laws.rule_refused F q) x

  pub here_goes : {g : Rule P} {A B : Reader} {v : View N} → Goes K.syntax g A v B
      → Goes K.syntax (here g) A (at A.at v) B
  here_goes {g} {A} {B} {v} x = let F = K.fits (text_of A.tokens.now) in goes_onto
      (λ e q. (placed A.at q.0, laws.here_found F q.1, s_at A.at q.2)) (λ e z q. laws.here_refused F
      q) x

  pub skip_goes : {g : Rule P} {A B : Reader} {v : View N} → Goes K.syntax g A v B
      → Goes K.syntax (skip g) A empty B
  skip_goes {g} {A} {B} {v} x = let F = K.fits (text_of A.tokens.now) in goes_onto
      (λ e q. (nothing, laws.skip_found F q.1, s_empty)) (λ e z q. laws.skip_refused F q) x

  -- [ g ]
  pub opt_in : {g : Rule P} {A B : Reader} {v : View N} (k : Test)
      → implies_one implies k (can_begin K.syntax.marks g) ≡ true
      → can_be_empty K.syntax.marks g ≡ false → Sees A k true → Goes K.syntax g A v B
      → Goes K.syntax (opt g) A (given v) B
  opt_in {g} {A} {B} {v} k i f s x = let F = K.fits (text_of A.tokens.now) in
      goes_onto (λ e q. (some q.0, laws.opt_found F f q.1, s_given q.2))
      (λ e z q. laws.opt_refused F (begins_it (can_begin K.syntax.marks g) i s) q) x

  pub opt_out : {g : Rule P} {A : Reader} (ks : List Test)
      → covered implies (can_begin K.syntax.marks g) ks ≡ true
      → can_be_empty K.syntax.marks g ≡ false → NoneSeen A ks → Goes K.syntax (opt g) A empty A
  opt_out {g} {A} ks i f n = record {
    moves = stay (Finds K.syntax A.tokens.now (opt g) A.levels A.at empty)
        (Fails K.syntax A.tokens.now (opt g) A.levels A.at) A.at A.outcome
        (λ w. (
          nothing,
          laws.opt_out (K.fits (text_of A.tokens.now)) f A.inside
              (begins_not A (can_begin K.syntax.marks g) ks i n w),
          s_empty,
        ));
    same = same_here;
  }

  -- one or the other, which a token decides
  pub first_in : {g h : Rule P} {A B : Reader} {v : View N} (k : Test)
      → implies_one implies k (can_begin K.syntax.marks g) ≡ true
      → disjoint apart (can_begin K.syntax.marks g) (can_begin K.syntax.marks h) ≡ true
      → can_be_empty K.syntax.marks g ≡ false → can_be_empty K.syntax.marks h ≡ false
      → Sees A k true → Goes K.syntax g A v B → Goes K.syntax (alt g h) A (first v) B
  first_in {g} {h} {A} {B} {v} k i j f e s x = let F = K.fits (text_of A.tokens.now) in let D =
      far K.syntax.production (text_of A.tokens.now) (can_begin K.syntax.marks g)
      (can_begin K.syntax.marks h) j in
      goes_onto (λ w q. (left q.0, laws.left_found F D f e q.1, s_first q.2))
      (λ w z q. laws.left_refused F D e (begins_it (can_begin K.syntax.marks g) i s) q) x

  pub second_in : {g h : Rule P} {A B : Reader} {v : View N} (k : Test)
      → implies_one implies k (can_begin K.syntax.marks h) ≡ true
      → disjoint apart (can_begin K.syntax.marks g) (can_begin K.syntax.marks h) ≡ true
      → can_be_empty K.syntax.marks g ≡ false → can_be_empty K.syntax.marks h ≡ false
      → Sees A k true → Goes K.syntax h A v B → Goes K.syntax (alt g h) A (second v) B
  second_in {g} {h} {A} {B} {v} k i j f e s x = let F = K.fits (text_of A.tokens.now) in let D =
      far K.syntax.production (text_of A.tokens.now) (can_begin K.syntax.marks g)
      (can_begin K.syntax.marks h) j in
      goes_onto (λ w q. (right q.0, laws.right_found F D f e q.1, s_second q.2))
      (λ w z q. laws.right_refused F D f (begins_it (can_begin K.syntax.marks h) i s) q) x

  -- the first alternative, where no token is seen that begins the second
  pub first_else : {g h : Rule P} {A B : Reader} {v : View N} (ks : List Test)
      → covered implies (can_begin K.syntax.marks h) ks ≡ true
      → disjoint apart (can_begin K.syntax.marks g) (can_begin K.syntax.marks h) ≡ true
      → can_be_empty K.syntax.marks g ≡ false → can_be_empty K.syntax.marks h ≡ false
      → NoneSeen A ks → Goes K.syntax g A v B → Goes K.syntax (alt g h) A (first v) B
  first_else {g} {h} {A} {B} {v} ks i j f e n x = let F = K.fits (text_of A.tokens.now) in let D =
      far K.syntax.production (text_of A.tokens.now) (can_begin K.syntax.marks g)
      (can_begin K.syntax.marks h) j in
      goes_onto (λ w q. (left q.0, laws.left_found F D f e q.1, s_first q.2))
      (λ w z q. laws.left_refused_else F (begins_not A (can_begin K.syntax.marks h) ks i n w) e
      q) x

  -- [ k g ], which belongs to the nearest that can take it
  pub nearest_in : {k : Test} {g : Rule P} {A B C : Reader} {v : View N} → Sees A k true
      → Takes k A B → Goes K.syntax g B v C → Goes K.syntax (nearest k g) A (given v) C
  nearest_in {k} {g} {A} {B} {C} {v} s x y =
      let tk = A.tokens.now in let F = K.fits (text_of tk) in
      record {
        moves = after (Taken tk k A.at) (Finds K.syntax tk g A.levels B.at v)
            (Finds K.syntax tk (nearest k g) A.levels A.at (given v))
            (NotThere tk k A.at) (Fails K.syntax tk g A.levels B.at)
            (Fails K.syntax tk (nearest k g) A.levels A.at) A.at B.at C.at A.outcome B.outcome
            C.outcome
            (λ e p q. (
              some q.0,
              laws.nearest_found F p.0
                  (subst (λ i. Found (language K.syntax.production (text_of tk)) K.syntax.marks
                  (tokens_of tk) g A.levels i C.at q.0) p.1 q.1),
              s_given q.2,
            ))
            (λ e z p q. laws.nearest_refused F p.0
            (subst (λ i. Fails K.syntax tk g A.levels i C.at z) p.1 q))
            (λ e z q. absurd (let m : stands tk A.at k ≡ true = sees_it s in let n : stands tk A.at
            k ≡ false = q.0 in cc))
            x.takes (from x.same y);
        same = same_on x.same y.same;
      }

  pub nearest_out : {k : Test} {g : Rule P} {A : Reader} → Sees A k false
      → Goes K.syntax (nearest k g) A empty A
  nearest_out {k} {g} {A} s = record {
    moves = stay (Finds K.syntax A.tokens.now (nearest k g) A.levels A.at empty)
        (Fails K.syntax A.tokens.now (nearest k g) A.levels A.at) A.at A.outcome
        (λ w. (
          nothing,
          laws.nearest_out (K.fits (text_of A.tokens.now)) A.inside
              (λ e. let n : stands A.tokens.now A.at k ≡ false = sees_not w s in let m : stands
              A.tokens.now A.at k ≡ true = e in cc),
          s_empty,
        ));
    same = same_here;
  }

  -- a level: what is opened, read and closed
  pub deep_moves : (tk : Tokens) (k : Test) (g : Rule P) (v : View N) (a d b e c : ℕ)
      (o o' : Outcome) → stands tk a k ≡ true → OpensAt a d b e o
      → Does (Finds K.syntax tk g e b v) (Fails K.syntax tk g e b) b o c o'
      → Does (Finds K.syntax tk (deeper (word k g)) d a v) (Fails K.syntax tk (deeper (word k g)) d
      a) a Well c o'
  deep_moves tk k g v a d b e c Well Well s x y = (
    y.0,
    laws.deeper_found (K.fits (text_of tk)) (omega (arith, x.1))
        (laws.word_found (K.fits (text_of tk)) s
        (subst (λ r. Found (language K.syntax.production (text_of tk)) K.syntax.marks (tokens_of tk)
        g (d - 1) r c y.0) x.0 (subst (λ r. Found (language K.syntax.production (text_of tk))
        K.syntax.marks (tokens_of tk) g r b c y.0) (let q : e ≡ d - 1 = omega (arith, x.1) in q)
        y.1))),
    y.2,
  )
  deep_moves tk k g v a d b e c Well Wrong s x y =
      laws.deeper_refused (K.fits (text_of tk)) (omega (arith, x.1))
      (laws.word_refused (K.fits (text_of tk)) s
      (subst (λ r. Fails K.syntax tk g (d - 1) r c false) x.0
      (subst (λ r. Fails K.syntax tk g r b c false) (let q : e ≡ d - 1 = omega (arith, x.1)
      in q) y)))
  deep_moves tk k g v a d b e c Well TooDeep s x y =
      laws.deeper_refused (K.fits (text_of tk)) (omega (arith, x.1))
      (laws.word_refused (K.fits (text_of tk)) s
      (subst (λ r. Fails K.syntax tk g (d - 1) r c true) x.0
      (subst (λ r. Fails K.syntax tk g r b c true) (let q : e ≡ d - 1 = omega (arith, x.1) in q)
      y)))
  deep_moves tk k g v a d b e c Well NoMemory s x y = tt
  deep_moves tk k g v a d b e c TooDeep o' s x y =
      subst (λ r. Does (Finds K.syntax tk (deeper (word k g)) d a v)
      (Fails K.syntax tk (deeper (word k g)) d a) a Well c r) (sym y.0)
      (subst (λ r. Fails K.syntax tk (deeper (word k g)) d a r true) (sym (y.1 ∙ x.0))
      (laws.too_deep (K.fits (text_of tk)) x.1 s))
  deep_moves tk k g v a d b e c Wrong o' s x y = elim x [ ]
  deep_moves tk k g v a d b e c NoMemory o' s x y = elim x [ ]

  pub deep : {k : Test} {g : Rule P} {A B C D : Reader} {d : ℕ} {v : View N} → Sees A k true
      → Opens A d B → Goes K.syntax g B v C → Closes d C D → Goes K.syntax (deeper (word k g)) A v D
  deep {k} {g} {A} {B} {C} {D} {d} {v} s x y z =
      let tk = A.tokens.now in
      let P = Finds K.syntax tk (deeper (word k g)) A.levels A.at v in let Q = Fails K.syntax tk
      (deeper (word k g)) A.levels A.at in
      record {
        moves =
            subst (λ o. Does P Q A.at o D.at D.outcome) (sym (sees_well s))
            (subst (λ o. Does P Q A.at Well D.at o) (sym z.outcome)
            (subst (λ i. Does P Q A.at Well i C.outcome) (sym z.place)
            (deep_moves tk k g v A.at A.levels B.at B.levels C.at B.outcome C.outcome (sees_it s)
            x.opens
            (subst (λ ts. Does (Finds K.syntax ts g B.levels B.at v) (Fails K.syntax ts g B.levels
            B.at) B.at B.outcome C.at C.outcome) x.tokens y.moves))));
        same = record {
          tokens = z.tokens ∙ (y.same.tokens ∙ x.tokens);
          levels = z.back ∙ x.told;
          onward = omega (arith, x.onward, y.same.onward, z.place);
          sticky = subst (λ o. bit D.outcome ≤ bit o) (sym (sees_well s)) (bit_small D.outcome);
        };
      }

  -- the alternative with this number
  abbrev pub alternative : Rule P → ℕ → Rule P
  alternative (alt g h) zero = g
  alternative (alt g h) (suc i) = alternative h i
  alternative g i = g

  -- and what is shown of the whole choice
  abbrev pub as_alternative : Rule P → ℕ → View N → View N
  as_alternative (alt g h) zero v = first v
  as_alternative (alt g h) (suc i) v = second (as_alternative h i v)
  as_alternative g i v = v

  -- neither can be empty, and no token begins both
  abbrev pub parted : Rule P → Rule P → Bool
  parted g h = disjoint apart (can_begin K.syntax.marks g) (can_begin K.syntax.marks h) &&
      (not (can_be_empty K.syntax.marks g) && not (can_be_empty K.syntax.marks h))

  -- a token of this kind begins the alternative with this number alone
  abbrev pub tells : Test → Rule P → ℕ → Bool
  tells k (alt g h) zero = parted g h && implies_one implies k (can_begin K.syntax.marks g)
  tells k (alt g h) (suc i) = parted g h && (implies_one implies k (can_begin K.syntax.marks h) &&
      tells k h i)
  tells k g i = true

  pub not_true : (b : Bool) → not b ≡ true → b ≡ false
  not_true true e = absurd cc
  not_true false e = refl

  -- the token that is seen chooses the alternative
  pub chooses : (g : Rule P) (i : ℕ) (k : Test) {A B : Reader} {v : View N} → tells k g i ≡ true
      → Sees A k true → Goes K.syntax (alternative g i) A v B
      → Goes K.syntax g A (as_alternative g i v) B
  chooses (alt g h) zero k e s x =
      let d = and_left (parted g h) _ e in let n =
      and_right (disjoint apart (can_begin K.syntax.marks g) (can_begin K.syntax.marks h)) _ d
      in
      first_in k (and_right (parted g h) _ e)
      (and_left (disjoint apart (can_begin K.syntax.marks g) (can_begin K.syntax.marks h)) _ d)
      (not_true _ (and_left (not (can_be_empty K.syntax.marks g)) _ n))
      (not_true _ (and_right (not (can_be_empty K.syntax.marks g)) _ n)) s x
  chooses (alt g h) (suc i) k e s x =
      let d = and_left (parted g h) _ e in let n =
      and_right (disjoint apart (can_begin K.syntax.marks g) (can_begin K.syntax.marks h)) _ d
      in let r = and_right (parted g h) _ e in
      second_in k (and_left (implies_one implies k (can_begin K.syntax.marks h)) _ r)
      (and_left (disjoint apart (can_begin K.syntax.marks g) (can_begin K.syntax.marks h)) _ d)
      (not_true _ (and_left (not (can_be_empty K.syntax.marks g)) _ n))
      (not_true _ (and_right (not (can_be_empty K.syntax.marks g)) _ n)) s
      (chooses h i k (and_right (implies_one implies k (can_begin K.syntax.marks h)) _ r) s x)
  chooses done i k e s x = x
  chooses none i k e s x = x
  chooses (word l h) i k e s x = x
  chooses (token l) i k e s x = x
  chooses (here h) i k e s x = x
  chooses (skip h) i k e s x = x
  chooses (seq h h') i k e s x = x
  chooses (opt h) i k e s x = x
  chooses (rep h) i k e s x = x
  chooses (nearest l h) i k e s x = x
  chooses (ended l h) i k e s x = x
  chooses (deeper h) i k e s x = x
  chooses (rule p) i k e s x = x

  -- alternative i, which begins with the token that is seen
  pub chosen : {g : Rule P} (i : ℕ) (k : Test) {A B : Reader} {v : View N} → tells k g i ≡ true
      → Sees A k true → Goes K.syntax (alternative g i) A v B
      → Goes K.syntax g A (as_alternative g i v) B
  chosen {g} i k e s x = chooses g i k e s x
