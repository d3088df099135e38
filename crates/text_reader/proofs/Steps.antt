-- What the small steps of a reader do to it, put together.
use Rattle.std.proofs.Common.{◌≡◌, ℕ, ◌+◌, ◌*◌, ◌-◌, ◌<◌, ◌≤◌, Bool, true, false, List, []}
use Rattle.std.proofs.Common.{◌∷◌, length, refl, sym, ◌∙◌, inl, inr, subst, arith, slice_get}
use Rattle.est_lexer.specs.declared.tokens.Tokens.{Tokens}
use Rattle.est_lexer.specs.Offsets.{text_of, tokens_of}
use Rattle.text_reader.specs.Marks.{MeetsOne, implies_one, covered}
use Rattle.text_reader.proofs.Members.{and_left, and_right}
use Rattle.text_reader.specs.declared.reader.Reader.{Reader}
use Rattle.text_reader.specs.declared.outcome.Outcome.{Outcome}
use Rattle.text_reader.specs.declared.outcome.Outcome.TheVariants.{Well, Wrong, TooDeep, NoMemory}
use Rattle.text_reader.specs.Tests.{Test, holds, stands, implies}
use Rattle.text_reader.specs.Moving.{bit, Does, Seen, Sees, NoneSeen, OneSeen, Same, Taken}
use Rattle.text_reader.specs.Moving.{NoneSpent, NotThere, Takes, weight, OpensAt, Opens, Still}

-- what is done does more, or less
pub onto : (P P' : ℕ → Type 0) (Q Q' : ℕ → Bool → Type 0) (a b : ℕ) (o o' : Outcome)
    → (o ≡ Well → P b → P' b) → (o ≡ Well → (z : Bool) → Q b z → Q' b z) → Does P Q a o b o'
    → Does P' Q' a o b o'
onto P P' Q Q' a b Well Well f h x = f refl x
onto P P' Q Q' a b Well Wrong f h x = h refl false x
onto P P' Q Q' a b Well TooDeep f h x = h refl true x
onto P P' Q Q' a b Well NoMemory f h x = tt
onto P P' Q Q' a b Wrong o' f h x = x
onto P P' Q Q' a b TooDeep o' f h x = x
onto P P' Q Q' a b NoMemory o' f h x = x

-- one after the other
pub after : (P P' P'' : ℕ → Type 0) (Q Q' Q'' : ℕ → Bool → Type 0) (a b c : ℕ) (o o' o'' : Outcome)
    → (o'' ≡ Well → P b → P' c → P'' c) → (o ≡ Well → (z : Bool) → P b → Q' c z → Q'' c z)
    → (o ≡ Well → (z : Bool) → Q b z → Q'' b z)
    → Does P Q a o b o' → Does P' Q' b o' c o'' → Does P'' Q'' a o c o''
after P P' P'' Q Q' Q'' a b c Well Well Well f h r x y = f refl x y
after P P' P'' Q Q' Q'' a b c Well Well Wrong f h r x y = h refl false x y
after P P' P'' Q Q' Q'' a b c Well Well TooDeep f h r x y = h refl true x y
after P P' P'' Q Q' Q'' a b c Well Well NoMemory f h r x y = tt
after P P' P'' Q Q' Q'' a b c Well Wrong o'' f h r x y = subst (λ v. Does P'' Q'' a Well c v)
    (sym y.0) (subst (λ v. Q'' v false) (sym y.1) (r refl false x))
after P P' P'' Q Q' Q'' a b c Well TooDeep o'' f h r x y = subst (λ v. Does P'' Q'' a Well c v)
    (sym y.0) (subst (λ v. Q'' v true) (sym y.1) (r refl true x))
after P P' P'' Q Q' Q'' a b c Well NoMemory o'' f h r x y = subst (λ v. Does P'' Q'' a Well c v)
    (sym y.0) tt
after P P' P'' Q Q' Q'' a b c Wrong o' o'' f h r x y = let z : (o'' ≡ Wrong)
    × (c ≡ b) = subst (λ v. Does P' Q' b v c o'') x.0 y in (z.0, z.1 ∙ x.1)
after P P' P'' Q Q' Q'' a b c TooDeep o' o'' f h r x y = let z : (o'' ≡ TooDeep)
    × (c ≡ b) = subst (λ v. Does P' Q' b v c o'') x.0 y in (z.0, z.1 ∙ x.1)
after P P' P'' Q Q' Q'' a b c NoMemory o' o'' f h r x y = let z : (o'' ≡ NoMemory)
    × (c ≡ b) = subst (λ v. Does P' Q' b v c o'') x.0 y in (z.0, z.1 ∙ x.1)

-- nothing is done
pub stay : (P : ℕ → Type 0) (Q : ℕ → Bool → Type 0) (a : ℕ) (o : Outcome) → (o ≡ Well → P a)
    → Does P Q a o a o
stay P Q a Well f = f refl
stay P Q a Wrong f = (refl, refl)
stay P Q a TooDeep f = (refl, refl)
stay P Q a NoMemory f = (refl, refl)

pub was_well : (P : ℕ → Type 0) (Q : ℕ → Bool → Type 0) (a b : ℕ) (o o' : Outcome)
    → Does P Q a o b o' → o' ≡ Well → o ≡ Well
was_well P Q a b Well o' x e = refl
was_well P Q a b Wrong o' x e = absurd (let f : o' ≡ Wrong = x.0 in cc)
was_well P Q a b TooDeep o' x e = absurd (let f : o' ≡ TooDeep = x.0 in cc)
was_well P Q a b NoMemory o' x e = absurd (let f : o' ≡ NoMemory = x.0 in cc)

-- what is seen
pub seen_well : (o : Outcome) (s : Bool) → Seen o s true → o ≡ Well
seen_well Well s e = refl
seen_well Wrong s e = absurd cc
seen_well TooDeep s e = absurd cc
seen_well NoMemory s e = absurd cc

pub seen_is : (o : Outcome) (s r : Bool) → o ≡ Well → Seen o s r → s ≡ r
seen_is Well s r w e = e
seen_is Wrong s r w e = absurd cc
seen_is TooDeep s r w e = absurd cc
seen_is NoMemory s r w e = absurd cc

pub sees_well : {A : Reader} {k : Test} → Sees A k true → A.outcome ≡ Well
sees_well {A} {k} x = seen_well A.outcome (stands A.tokens.now A.at k) x.seen

pub sees_it : {A : Reader} {k : Test} → Sees A k true → stands A.tokens.now A.at k ≡ true
sees_it {A} {k} x = seen_is A.outcome (stands A.tokens.now A.at k) true (sees_well x) x.seen

pub sees_not : {A : Reader} {k : Test} → A.outcome ≡ Well → Sees A k false
    → stands A.tokens.now A.at k ≡ false
sees_not {A} {k} w x = seen_is A.outcome (stands A.tokens.now A.at k) false w x.seen

-- the test that is met, among several
pub seen_among : (A : Reader) (ks ls : List Test) → covered implies ks ls ≡ true → OneSeen A ks
    → (k : Test) × (implies_one implies k ls ≡ true) × Sees A k true
seen_among A [] ls e s = elim s [ ]
seen_among A (k ∷ ks) ls e (inl s) = (k, and_left (implies_one implies k ls) _ e, s)
seen_among A (k ∷ ks) ls e (inr s) = seen_among A ks ls (and_right (implies_one implies k ls) _ e) s

pub none_meets : (A : Reader) (ks : List Test) → A.outcome ≡ Well → NoneSeen A ks
    → MeetsOne (holds (text_of A.tokens.now)) (slice_get (tokens_of A.tokens.now) A.at) ks → ⊥
none_meets A [] w n m = m
none_meets A (k ∷ ks) w n (inl e) = let f : stands A.tokens.now A.at k ≡ false = sees_not w n.0
    in cc
none_meets A (k ∷ ks) w n (inr m) = none_meets A ks w n.1 m

-- what stays
pub same_here : {A : Reader} → Same A A
same_here {A} = record { tokens = refl; levels = refl; onward = omega arith; sticky = omega arith }

pub same_on : {A B C : Reader} → Same A B → Same B C → Same A C
same_on {A} {B} {C} s r = record {
  tokens = r.tokens ∙ s.tokens;
  levels = r.levels ∙ s.levels;
  onward = omega (arith, s.onward, r.onward);
  sticky = omega (arith, s.sticky, r.sticky);
}

pub bit_small : (o : Outcome) → bit o ≤ 1
bit_small Well = omega arith
bit_small Wrong = omega arith
bit_small TooDeep = omega arith
bit_small NoMemory = omega arith

-- the parser's `open`, where there is a level
pub opened_at : (tk : Tokens) (k : Test) (a b d : ℕ) (o o' : Outcome) → o ≡ Well
    → stands tk a k ≡ true → (d ≡ 0 → ⊥) → NoneSpent o o'
    → Does (Taken tk k a) (NotThere tk k a) a o b o'
    → OpensAt a d b (d - 1) o' × ((d - 1) * 2 + bit o' < d * 2 + bit o)
opened_at tk k a b d Well Well w s n m x = ((x.1, omega (arith, n)), omega (arith, n))
opened_at tk k a b d Well Wrong w s n m x = absurd (let e : stands tk a k ≡ false = x.0 in cc)
opened_at tk k a b d Well TooDeep w s n m x = absurd (let e : stands tk a k ≡ false = x.0 in cc)
opened_at tk k a b d Well NoMemory w s n m x = absurd (let e : Well ≡ NoMemory = m refl in cc)
opened_at tk k a b d Wrong o' w s n m x = absurd cc
opened_at tk k a b d TooDeep o' w s n m x = absurd cc
opened_at tk k a b d NoMemory o' w s n m x = absurd cc

pub opened : {k : Test} {A B C : Reader} → Sees A k true → (A.levels ≡ 0 → ⊥) → Takes k A B
    → C.tokens.now ≡ B.tokens.now → C.at ≡ B.at → C.levels ≡ A.levels - 1 → C.outcome ≡ B.outcome
    → Opens A A.levels C
opened {k} {A} {B} {C} s n x t p l o =
    let y = opened_at A.tokens.now k A.at B.at A.levels A.outcome B.outcome (sees_well s)
    (sees_it s) n x.unspent x.takes in
    record {
      opens = subst (λ i. OpensAt A.at A.levels i C.levels C.outcome) (sym p)
          (subst (λ i. OpensAt A.at A.levels B.at i C.outcome) (sym l)
          (subst (λ i. OpensAt A.at A.levels B.at (A.levels - 1) i) (sym o) y.0));
      tokens = t ∙ x.same.tokens;
      told = refl;
      onward = omega (arith, x.same.onward, p);
      lighter = subst (λ i. i * 2 + bit C.outcome < weight A) (sym l)
          (subst (λ i. (A.levels - 1) * 2 + bit i < weight A) (sym o) y.1);
    }

-- memory may run out
pub still_well : {A B : Reader} → Still A B → B.outcome ≡ Well → A.outcome ≡ Well
still_well {A} {B} s e = was_well (λ b. b ≡ A.at) (λ b z. ⊥) A.at B.at A.outcome B.outcome s.stays e

pub still_on : {A B C : Reader} → Still A B → Still B C → Still A C
still_on {A} {B} {C} s r = record {
  stays = after (λ b. b ≡ A.at) (λ b. b ≡ B.at) (λ b. b ≡ A.at) (λ b z. ⊥) (λ b z. ⊥) (λ b z. ⊥)
      A.at B.at C.at A.outcome B.outcome C.outcome (λ e p q. q ∙ p) (λ e z p q. q) (λ e z q. q)
      s.stays r.stays;
  place = r.place ∙ s.place;
  same = same_on s.same r.same;
}

pub taken_at : (tokens : Tokens) (k : Test) (a b : ℕ) (o o' : Outcome)
    → Does (Taken tokens k a) (NotThere tokens k a) a o b o' → o' ≡ Well → stands tokens a k ≡ true
taken_at tokens k a b Well Well x e = x.0
taken_at tokens k a b Well Wrong x e = absurd cc
taken_at tokens k a b Well TooDeep x e = absurd cc
taken_at tokens k a b Well NoMemory x e = absurd cc
taken_at tokens k a b Wrong o' x e = absurd (let f : o' ≡ Wrong = x.0 in cc)
taken_at tokens k a b TooDeep o' x e = absurd (let f : o' ≡ TooDeep = x.0 in cc)
taken_at tokens k a b NoMemory o' x e = absurd (let f : o' ≡ NoMemory = x.0 in cc)

-- how much a loop has still to do: it reads on or fails
abbrev pub left_of : Reader → ℕ
left_of reader = (length (tokens_of reader.tokens.now) - reader.at) * 2 + bit reader.outcome

pub taken_well : {k : Test} {A B : Reader} → Takes k A B → B.outcome ≡ Well → A.outcome ≡ Well
taken_well {k} {A} {B} x e = was_well (Taken A.tokens.now k A.at) (NotThere A.tokens.now k A.at)
    A.at B.at A.outcome B.outcome x.takes e

pub still_here : {A : Reader} → Still A A
still_here {A} = record {
  stays = stay (λ b. b ≡ A.at) (λ b z. ⊥) A.at A.outcome (λ w. refl);
  place = refl;
  same = same_here;
}

-- { k h } [ k ]: one more turn, the last token, and the end
pub taken : {k : Test} {A B : Reader} → Sees A k true → Takes k A B → B.outcome ≡ Well
    → B.at ≡ A.at + 1
taken {k} {A} {B} s x w = at_next A.outcome B.outcome w (sees_well s) x.takes
  where
    at_next : (o o' : Outcome) → o' ≡ Well → o ≡ Well
        → Does (Taken A.tokens.now k A.at) (NotThere A.tokens.now k A.at) A.at o B.at o'
        → B.at ≡ A.at + 1
    at_next Well Well w v x = x.1
    at_next Well Wrong w v x = absurd cc
    at_next Well TooDeep w v x = absurd cc
    at_next Well NoMemory w v x = absurd cc
    at_next Wrong o' w v x = absurd cc
    at_next TooDeep o' w v x = absurd cc
    at_next NoMemory o' w v x = absurd cc

pub shift : (P : ℕ → Type 0) (Q : ℕ → Bool → Type 0) (b c d : ℕ) (o o' o'' : Outcome) → o ≡ Well
    → o' ≡ Well → Does P Q c o' d o'' → Does P Q b o d o''
shift P Q b c d Well Well Well w v x = x
shift P Q b c d Well Well Wrong w v x = x
shift P Q b c d Well Well TooDeep w v x = x
shift P Q b c d Well Well NoMemory w v x = tt
shift P Q b c d Well Wrong o'' w v x = absurd cc
shift P Q b c d Well TooDeep o'' w v x = absurd cc
shift P Q b c d Well NoMemory o'' w v x = absurd cc
shift P Q b c d Wrong o' o'' w v x = absurd cc
shift P Q b c d TooDeep o' o'' w v x = absurd cc
shift P Q b c d NoMemory o' o'' w v x = absurd cc
