-- Steps that one of several tokens decides, and what is refused where none of them comes next.
use Rattle.std.proofs.Common.{◌≡◌, ℕ, ◌<◌, Bool, true, false, ◌&&◌, List, [], ◌∷◌, ◌++◌}
use Rattle.std.proofs.Common.{Option, Some, None, inl, inr, refl, sym, ◌∙◌, subst}
use Rattle.text_reader.specs.Grammar.{opt, rep, ended, Shape}
use Rattle.text_reader.specs.Marks.{can_begin, can_go_on, can_be_empty}
use Rattle.text_reader.specs.Marks.{disjoint, covered, implies_one}
use Rattle.text_reader.specs.Shown.{Shows, node, given}
use Rattle.text_reader.proofs.GrammarLaws as laws
use Rattle.text_reader.proofs.Members.{and_left, and_right}
use Rattle.est_lexer.specs.Offsets.{text_of}
use Rattle.text_reader.specs.declared.reader.Reader.{Reader}
use Rattle.text_reader.specs.declared.outcome.Outcome.{Outcome}
use Rattle.text_reader.specs.declared.outcome.Outcome.TheVariants.{Well, Wrong, TooDeep, NoMemory}
use Rattle.text_reader.specs.Tests.{Test, Kept, stands, apart, implies}
use Rattle.text_reader.specs.Moving.{Does, Sees, NoneSeen, OneSeen, Taken, NotThere, Takes, Still}
use Rattle.text_reader.specs.Going.{Rule, View, Syntax, Finds, Fails, Goes}
use Rattle.text_reader.proofs.Steps.{onto, sees_not, left_of, taken_well, taken_at}
use Rattle.text_reader.proofs.Going.{Known, goes_onto, begins_not, opt_in}
use Rattle.text_reader.proofs.Going.{alternative, as_alternative, tells, chosen}
use Rattle.text_reader.proofs.Turns.{Turning, Each, more_parts, more_ended, lessens}

-- f holds of each of these tests
abbrev pub every : (Test → Bool) → List Test → Bool
every f [] = true
every f (k ∷ ks) = f k && every f ks

-- one of the tests is met, of which f holds as of all of them
pub seen_one : {A : Reader} (f : Test → Bool) (ks : List Test) → every f ks ≡ true → OneSeen A ks
    → (k : Test) × Sees A k true × (f k ≡ true)
seen_one f [] e o = absurd o
seen_one f (k ∷ ks) e (inl s) = (k, s, and_left (f k) _ e)
seen_one f (k ∷ ks) e (inr o) = seen_one f ks (and_right (f k) _ e) o

-- tests of two lists
pub seen_first : (A : Reader) (ks ls : List Test) → OneSeen A ks → OneSeen A (ks ++ ls)
seen_first A [] ls o = absurd o
seen_first A (k ∷ ks) ls (inl s) = inl s
seen_first A (k ∷ ks) ls (inr o) = inr (seen_first A ks ls o)

pub seen_second : (A : Reader) (ks ls : List Test) → OneSeen A ls → OneSeen A (ks ++ ls)
seen_second A [] ls o = o
seen_second A (k ∷ ks) ls o = inr (seen_second A ks ls o)

pub none_seen : (A : Reader) (ks ls : List Test) → NoneSeen A ks → NoneSeen A ls
    → NoneSeen A (ks ++ ls)
none_seen A [] ls n m = m
none_seen A (k ∷ ks) ls n m = (n.0, none_seen A ks ls n.1 m)

-- what is read shows what another view shows too
pub goes_as : {P N : Type 0} {X : Syntax P N} {g : Rule P} {A B : Reader} {v w : View N}
    → ((t : Shape Kept) → Shows X.layer v t → Shows X.layer w t) → Goes X g A v B → Goes X g A w B
goes_as f x = goes_onto (λ e q. (q.0, q.1, f q.0 q.2)) (λ e z q. q) x

module _ {P N : Type 0} (K : Known P N) where
  -- alternative i, which each of the tests tells
  pub chosen_by : {g : Rule P} (i : ℕ) (ks : List Test) {A B : Reader} {v : View N}
      → every (λ k. tells K k g i) ks ≡ true → OneSeen A ks
      → Goes K.syntax (alternative K g i) A v B → Goes K.syntax g A (as_alternative K g i v) B
  chosen_by {g} i ks e o x = let s = seen_one (λ k. tells K k g i) ks e o in chosen K i s.0 s.2 s.1
      x

  -- [ g ], where one of the tests is met
  pub opt_in_by : {g : Rule P} {A B : Reader} {v : View N} (ks : List Test)
      → every (λ k. implies_one implies k (can_begin K.syntax.marks g)) ks ≡ true
      → can_be_empty K.syntax.marks g ≡ false → OneSeen A ks → Goes K.syntax g A v B
      → Goes K.syntax (opt g) A (given v) B
  opt_in_by {g} ks e f o x = let s =
      seen_one (λ k. implies_one implies k (can_begin K.syntax.marks g)) ks e o in opt_in K s.0 s.2
      f s.1 x

  -- one more turn, where one of the tests is met
  pub more_parts_by : {whole h : Rule P} {A B C D : Reader} {n : N} (ns : List N) {ms : List N}
      (ks : List Test) → every (λ k. implies_one implies k (can_begin K.syntax.marks h)) ks ≡ true
      → disjoint apart (can_go_on K.syntax.marks h) (can_begin K.syntax.marks h) ≡ true
      → can_be_empty K.syntax.marks h ≡ false
      → OneSeen B ks → Turning K whole (rep h) A (Each K ns) B → Goes K.syntax h B (node n) C
      → Still C D → (D.outcome ≡ Well → ns ++ n ∷ [] ≡ ms)
      → Turning K whole (rep h) A (Each K ms) D
  more_parts_by {h = h} ns ks e j f o x y z q = let s =
      seen_one (λ k. implies_one implies k (can_begin K.syntax.marks h)) ks e o in more_parts K ns
      s.0 s.2 j f s.1 x y z q

  -- one more turn after a token that may also stand last
  pub more_ended_by : {whole h : Rule P} {A B C D E : Reader} {n : N} (ns : List N) {ms : List N}
      (k : Test) (ls : List Test) → every (λ l. implies_one implies l (can_begin K.syntax.marks h))
      ls ≡ true → disjoint apart (k ∷ []) (can_go_on K.syntax.marks h) ≡ true
      → can_be_empty K.syntax.marks h ≡ false
      → Sees B k true → Turning K whole (ended k h) A (Each K ns) B → Takes k B C → OneSeen C ls
      → Goes K.syntax h C (node n) D → Still D E → (E.outcome ≡ Well → ns ++ n ∷ [] ≡ ms)
      → Turning K whole (ended k h) A (Each K ms) E
  more_ended_by {h = h} ns k ls i j f s x t o y z q = let r =
      seen_one (λ l. implies_one implies l (can_begin K.syntax.marks h)) ls i o in more_ended K ns k
      r.0 r.2 j f s x t r.1 y z q

  pub lessens_by : {h : Rule P} {B C D : Reader} {v : View N} (ks : List Test)
      → can_be_empty K.syntax.marks h ≡ false → OneSeen B ks → Goes K.syntax h B v C → Still C D
      → left_of D < left_of B
  lessens_by ks f o x s = let q = seen_one (λ k. true) ks (all_true ks) o in lessens K f q.1 x s
    where
      all_true : (ls : List Test) → every (λ k. true) ls ≡ true
      all_true [] = refl
      all_true (l ∷ ls) = all_true ls

  -- no token that can begin g comes next: what is taken in its place is refused
  pub lost : {g : Rule P} {A B : Reader} {v : View N} {k : Test} (ks : List Test)
      → covered implies (can_begin K.syntax.marks g) ks ≡ true
      → can_be_empty K.syntax.marks g ≡ false → NoneSeen A ks → Sees A k false → Takes k A B
      → Goes K.syntax g A v B
  lost {g} {A} {B} {v} {k} ks i f n s x = record {
    moves = onto (Taken A.tokens.now k A.at) (Finds K.syntax A.tokens.now g A.levels A.at v)
        (NotThere A.tokens.now k A.at) (Fails K.syntax A.tokens.now g A.levels A.at) A.at B.at
        A.outcome B.outcome
        (λ w t. absurd (let p : stands A.tokens.now A.at k ≡ false = sees_not w s in let q : stands
        A.tokens.now A.at k ≡ true = t.0 in cc))
        (λ w z t. subst (λ u. Fails K.syntax A.tokens.now g A.levels A.at B.at u) (sym t.2)
        (subst (λ j. Fails K.syntax A.tokens.now g A.levels A.at j false) (sym t.1)
        (laws.refused_here (K.fits (text_of A.tokens.now)) f A.inside
        (begins_not K A (can_begin K.syntax.marks g) ks i n w))))
        x.takes;
    same = x.same;
  }

-- the view of what is read, by another name
pub goes_is : {P N : Type 0} {X : Syntax P N} {g : Rule P} {A B : Reader} {v w : View N} → v ≡ w
    → Goes X g A v B → Goes X g A w B
goes_is {X = X} {g} {A} {B} e x = subst (λ u. Goes X g A u B) e x

-- what does not come next is not taken
pub not_taken : {k : Test} {A B : Reader} → Sees A k false → Takes k A B → B.outcome ≡ Well → ⊥
not_taken {k} {A} {B} s x w =
    let p : stands A.tokens.now A.at k ≡ false = sees_not (taken_well x w) s in
    let q : stands A.tokens.now A.at k ≡ true = taken_at A.tokens.now k A.at B.at A.outcome
    B.outcome x.takes w in
    cc

-- a box that is there holds the value, and there is one where all is well
pub box_holds : {T W : Type 0} {r : Option T} {b v : T} → r ≡ Some b → (W → r ≡ Some v) → W → b ≡ v
box_holds {r = r} {b} {v} e f w = let g : Some b ≡ Some v = sym e ∙ f w in cc

pub no_box : {T W : Type 0} {r : Option T} {v : T} → r ≡ None → (W → r ≡ Some v) → W → ⊥
no_box {r = r} {v} e f w = let g : None ≡ Some v = sym e ∙ f w in cc

-- what is found where all is well
pub finds : {P N : Type 0} {X : Syntax P N} {g : Rule P} {A B : Reader} {v : View N}
    → Goes X g A v B → B.outcome ≡ Well → Finds X A.tokens.now g A.levels A.at v B.at
finds {X = X} {g} {A} {B} {v} x w = found A.outcome B.outcome w x.moves
  where
    found : (o o' : Outcome) → o' ≡ Well
        → Does (Finds X A.tokens.now g A.levels A.at v) (Fails X A.tokens.now g A.levels A.at) A.at
        o B.at o' → Finds X A.tokens.now g A.levels A.at v B.at
    found Well Well e m = m
    found Well Wrong e m = absurd cc
    found Well TooDeep e m = absurd cc
    found Well NoMemory e m = absurd cc
    found Wrong o' e m = absurd (let f : o' ≡ Wrong = m.0 in cc)
    found TooDeep o' e m = absurd (let f : o' ≡ TooDeep = m.0 in cc)
    found NoMemory o' e m = absurd (let f : o' ≡ NoMemory = m.0 in cc)
