-- What a reader finds of a trace, and what holds of its shape.
use Rattle.std.proofs.Common.{◌≡◌, ℕ, Bool, true, [], refl, sym, ap, subst}
use Rattle.est_lexer.specs.declared.tokens.Tokens.{Tokens}
use Rattle.est_lexer.specs.Offsets.{text_of, tokens_of}
use Rattle.text_reader.specs.Grammar.{word, seq, nothing, leaf, placed, both, left, right}
use Rattle.text_reader.specs.Grammar.{some}
use Rattle.text_reader.specs.Marks.{can_begin, can_go_on, disjoint}
use Rattle.text_reader.specs.Findings.{Found}
use Rattle.text_reader.specs.Shown.{Shows, node, s_empty, s_kept, s_at, s_pair, s_first, s_second}
use Rattle.text_reader.specs.Shown.{s_given, s_node}
use Rattle.text_reader.specs.declared.reader.Reader.{Reader}
use Rattle.text_reader.specs.declared.outcome.Outcome.{Outcome}
use Rattle.text_reader.specs.declared.outcome.Outcome.TheVariants.{Well, Wrong, TooDeep, NoMemory}
use Rattle.text_reader.specs.Tests.{Test, apart}
use Rattle.text_reader.specs.Moving.{Does, Same, Still, Takes}
use Rattle.text_reader.specs.Going.{Shape, View, Finds, Fails, Goes}
use Rattle.text_reader.proofs.Steps.{onto}
use Rattle.text_reader.proofs.Going.{goes_onto, part, take, then, went_well}
use Rattle.text_values.specs.TraceGrammar.{Rule, marks}
use Rattle.text_values.specs.ValueReading.{plain, Reads}
use Rattle.text_values.proofs.Known.{known}
use Rattle.est_trace.specs.TraceText.{traces}

-- a shape is shown by itself
pub shows_itself : (t : Shape) → Shows plain.layer (node t) t
shows_itself nothing = s_node s_empty
shows_itself (leaf v) = s_node (s_kept v)
shows_itself (placed p t) = s_node (s_at p (shows_itself t))
shows_itself (both t u) = s_node (s_pair (shows_itself t) (shows_itself u))
shows_itself (left t) = s_node (s_first (shows_itself t))
shows_itself (right t) = s_node (s_second (shows_itself t))
shows_itself (some t) = s_node (s_given (shows_itself t))

-- and by no other
pub shows_only : (t : Shape) {u : Shape} → Shows plain.layer (node t) u → u ≡ t
shows_only nothing (s_node s_empty) = refl
shows_only (leaf v) (s_node (s_kept w)) = refl
shows_only (placed p t) (s_node (s_at q d)) = ap (placed p) (shows_only t d)
shows_only (both t v) (s_node (s_pair d e)) = let p = shows_only t d in let q = shows_only v e in cc
shows_only (left t) (s_node (s_first d)) = ap left (shows_only t d)
shows_only (right t) (s_node (s_second d)) = ap right (shows_only t d)
shows_only (some t) (s_node (s_given d)) = ap some (shows_only t d)

-- g has a tree from a up to b, and this holds of its shape
abbrev pub FindsOne : Tokens → Rule → ℕ → ℕ → (Shape → Type 0) → ℕ → Type 0
FindsOne tokens g d a Is b = (t : Shape)
    × Found (traces (text_of tokens)) marks (tokens_of tokens) g d a b t × Is t

-- what is known where all went well
pub with_well : (P : ℕ → Type 0) (Q : ℕ → Bool → Type 0) (a b : ℕ) (o o' : Outcome)
    → Does P Q a o b o' → Does (λ i. P i × (o' ≡ Well)) Q a o b o'
with_well P Q a b Well Well x = (x, refl)
with_well P Q a b Well Wrong x = x
with_well P Q a b Well TooDeep x = x
with_well P Q a b Well NoMemory x = tt
with_well P Q a b Wrong o' x = x
with_well P Q a b TooDeep o' x = x
with_well P Q a b NoMemory o' x = x

-- what was read, where all went well
pub read_well : (P : ℕ → Type 0) (Q : ℕ → Bool → Type 0) (a b : ℕ) (o o' : Outcome)
    → Does P Q a o b o' → o' ≡ Well → (o ≡ Well) × P b
read_well P Q a b Well Well x e = (refl, x)
read_well P Q a b Well Wrong x e = absurd cc
read_well P Q a b Well TooDeep x e = absurd cc
read_well P Q a b Well NoMemory x e = absurd cc
read_well P Q a b Wrong o' x e = absurd (let f : o' ≡ Wrong = x.0 in cc)
read_well P Q a b TooDeep o' x e = absurd (let f : o' ≡ TooDeep = x.0 in cc)
read_well P Q a b NoMemory o' x e = absurd (let f : o' ≡ NoMemory = x.0 in cc)

module _ {g : Rule} {Is : Shape → Type 0} {A B : Reader} where
  -- what a reader finds
  pub moves_of : Reads g Is A B
      → Does (FindsOne A.tokens.now g A.levels A.at Is)
      (Fails plain A.tokens.now g A.levels A.at) A.at A.outcome B.at B.outcome
  moves_of x =
      let tk = A.tokens.now in
      let P = Finds plain tk g A.levels A.at (node x.shape) in
      let Q = Fails plain tk g A.levels A.at in
      onto (λ b. P b × (B.outcome ≡ Well)) (FindsOne tk g A.levels A.at Is) Q Q A.at B.at A.outcome
      B.outcome
      (λ e p. (p.0.0, p.0.1, subst Is (sym (shows_only x.shape p.0.2)) (x.is p.1)))
      (λ e z q. q)
      (with_well P Q A.at B.at A.outcome B.outcome x.goes.moves)

  pub reads_of : Does (FindsOne A.tokens.now g A.levels A.at Is)
      (Fails plain A.tokens.now g A.levels A.at) A.at A.outcome B.at B.outcome → Same A B
      → Reads g Is A B
  reads_of x s = let r = go A.outcome B.outcome x in record {
    shape = r.0;
    goes = record { moves = r.1; same = s };
    is = r.2;
  }
    where
      go : (o o' : Outcome) → Does (FindsOne A.tokens.now g A.levels A.at Is)
          (Fails plain A.tokens.now g A.levels A.at) A.at o B.at o'
          → (t : Shape) × Does (Finds plain A.tokens.now g A.levels A.at (node t))
          (Fails plain A.tokens.now g A.levels A.at) A.at o B.at o' × (o' ≡ Well → Is t)
      go Well Well x = (x.0, (x.0, x.1, shows_itself x.0), λ e. x.2)
      go Well Wrong x = (nothing, x, λ e. absurd cc)
      go Well TooDeep x = (nothing, x, λ e. absurd cc)
      go Well NoMemory x = (nothing, tt, λ e. absurd cc)
      go Wrong o' x = (nothing, x, λ e. absurd (let f : o' ≡ Wrong = x.0 in cc))
      go TooDeep o' x = (nothing, x, λ e. absurd (let f : o' ≡ TooDeep = x.0 in cc))
      go NoMemory o' x = (nothing, x, λ e. absurd (let f : o' ≡ NoMemory = x.0 in cc))

  -- the tree that is read
  pub tree_of : (x : Reads g Is A B) → B.outcome ≡ Well → (A.outcome ≡ Well)
      × Found (traces (text_of A.tokens.now)) marks (tokens_of A.tokens.now) g A.levels A.at B.at
      x.shape
  tree_of x e =
      let r = read_well (Finds plain A.tokens.now g A.levels A.at (node x.shape))
      (Fails plain A.tokens.now g A.levels A.at) A.at B.at A.outcome B.outcome x.goes.moves e in (
        r.0,
        subst (λ t. Found (traces (text_of A.tokens.now)) marks (tokens_of A.tokens.now) g A.levels
            A.at B.at t) (shows_only x.shape r.1.2) r.1.1,
      )

-- what a later reader does, told of the tokens and levels of an earlier one
pub from_reads : {h : Rule} {Is : Shape → Type 0} {A B C : Reader} → Same A B → Reads h Is B C
    → Does (FindsOne A.tokens.now h A.levels B.at Is) (Fails plain A.tokens.now h A.levels B.at)
    B.at B.outcome C.at C.outcome
from_reads {h} {Is} {A} {B} {C} s y =
    subst (λ d. Does (FindsOne A.tokens.now h d B.at Is) (Fails plain A.tokens.now h d B.at) B.at
    B.outcome C.at C.outcome) s.levels
    (subst (λ ts. Does (FindsOne ts h B.levels B.at Is) (Fails plain ts h B.levels B.at) B.at
    B.outcome C.at C.outcome) s.tokens (moves_of y))

-- what holds of the shape implies more
pub reads_as : {g : Rule} {Is More : Shape → Type 0} {A B : Reader} → Reads g Is A B
    → (B.outcome ≡ Well → (t : Shape) → Is t → More t) → Reads g More A B
reads_as x f = record { shape = x.shape; goes = x.goes; is = λ e. f e x.shape (x.is e) }

-- a token, and then the rest
pub word_reads : {k : Test} {h : Rule} {Is : Shape → Type 0} {A B C : Reader} → Takes k A B
    → Reads h Is B C → Reads (word k h) Is A C
word_reads x y = record { shape = y.shape; goes = take known x y.goes; is = y.is }

-- one part has the first shape of a pair, and another the second
abbrev pub ArePaired : (Shape → Type 0) → (Shape → Type 0) → Shape → Type 0
ArePaired P Q (both t u) = P t × Q u
ArePaired P Q _ = ⊥

-- one, and then the other
pub pair_reads : {g h : Rule} {P Q More : Shape → Type 0} {A B C : Reader}
    → disjoint apart (can_go_on marks g) (can_begin marks h) ≡ true
    → ((t u : Shape) → P t → Q u → More (both t u)) → Reads g P A B → Reads h Q B C
    → Reads (seq g h) More A C
pair_reads j f x y = record {
  shape = both x.shape y.shape;
  goes = part refl (then known j x.goes y.goes);
  is = λ e. f x.shape y.shape (x.is (went_well y.goes e)) (y.is e);
}

-- where nothing goes on after the first
pub then_reads : {g h : Rule} {P Q : Shape → Type 0} {A B C : Reader}
    → can_go_on marks g ≡ [] → Reads g P A B → Reads h Q B C
    → Reads (seq g h) (ArePaired P Q) A C
then_reads {g} {h} c x y =
    pair_reads (subst (λ ks. disjoint apart ks (can_begin marks h) ≡ true) (sym c) refl)
    (λ t u p q. (p, q)) x y

-- where memory runs out, nothing is told
pub spent_reads : {g : Rule} {Is : Shape → Type 0} {A B : Reader} → Still A B
    → (B.outcome ≡ Well → ⊥) → Reads g Is A B
spent_reads {g} {Is} {A} {B} s n =
    reads_of (onto (λ b. (b ≡ A.at) × (B.outcome ≡ Well)) (FindsOne A.tokens.now g A.levels A.at Is)
    (λ b z. ⊥) (Fails plain A.tokens.now g A.levels A.at) A.at B.at A.outcome B.outcome
    (λ e p. absurd (n p.1)) (λ e z q. absurd q)
    (with_well (λ b. b ≡ A.at) (λ b z. ⊥) A.at B.at A.outcome B.outcome s.stays)) s.same

-- a view of one shape alone
pub as_shape : {g : Rule} {A B : Reader} {v : View Shape} (t : Shape)
    → ((u : Shape) → Shows plain.layer v u → u ≡ t) → Goes plain g A v B
    → Goes plain g A (node t) B
as_shape t f x = goes_onto (λ w q. (
  q.0,
  q.1,
  subst (λ u. Shows plain.layer (node t) u) (sym (f q.0 q.2)) (shows_itself t),
)) (λ w z q. q) x
