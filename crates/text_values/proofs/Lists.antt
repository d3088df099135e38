-- Lists of items, with commas between them, as they are read in a loop.
use Rattle.std.proofs.Common.{◌≡◌, ℕ, zero, suc, List, [], ◌∷◌, ◌++◌, cond, refl}
use Rattle.std.proofs.Common.{sym, ap₂, subst, append_assoc, append-nil, Bool, true}
use Rattle.std.proofs.Common.{false}
use Rattle.est_lexer.specs.declared.kind.Symbol.{Symbol}
use Rattle.est_lexer.specs.declared.kind.TokenKind.TheVariants as token
use Rattle.text_reader.specs.Grammar.{seq, nothing, both}
use Rattle.text_reader.specs.Marks.{can_go_on, can_be_empty}
use Rattle.text_reader.specs.Shown.{node}
use Rattle.text_reader.specs.declared.reader.Reader.{Reader}
use Rattle.text_reader.specs.declared.outcome.Outcome.TheVariants.{Well}
use Rattle.text_reader.specs.Tests.{kind}
use Rattle.text_reader.specs.Moving.{Takes}
use Rattle.text_reader.specs.Going.{Shape, Goes}
use Rattle.text_reader.proofs.Going.{take, went_well}
use Rattle.text_reader.proofs.Steps.{taken_well}
use Rattle.text_values.specs.TraceGrammar.{Rule, more, listed, enclosed, marks}
use Rattle.text_values.specs.ValueReading.{plain, Reads}
use Rattle.text_values.specs.ValueShapes.{AreShown, AreEnclosed}
use Rattle.text_values.specs.inside.Gathering.{after, ReadsNext}
use Rattle.text_values.proofs.Known.{known}
use Rattle.text_values.proofs.Walks.{then_goes, last_goes, done_goes}

module _ {K V : Type 0} (f : K → Rule) (R : K → V → Shape → Type 0) where
  -- the items that are left, after so many others
  abbrev pub left_over : ℕ → List K → Rule
  left_over zero xs = listed f xs
  left_over (suc n) xs = more f xs

  left_seq : (n : ℕ) (k : K) (ks : List K)
      → left_over n (k ∷ ks) ≡ seq (after n (f k)) (more f ks)
  left_seq zero k ks = refl
  left_seq (suc n) k ks = refl

  after_closed : (n : ℕ) (k : K) → can_go_on marks (f k) ≡ [] → can_go_on marks (after n (f k)) ≡ []
  after_closed zero k e = e
  after_closed (suc n) k e = e

  -- So many items of a list have been read, with these values; what is left is read with those
  -- that come.
  pub record Halfway (ks : List K) (A : Reader) (n : ℕ) (others : List K) (B : Reader)
      (vs : List V) : Type 0 where
    pub frame : Shape → Shape
    pub goes : (C : Reader) (u : Shape) → Goes plain (left_over n others) B (node u) C
        → Goes plain (listed f ks) A (node (frame u)) C
    pub shows : B.outcome ≡ Well → (ws : List V) (u : Shape) → AreShown R others ws u
        → AreShown R ks (vs ++ ws) (frame u)

  -- none yet
  pub none_read : (ks others : List K) {A : Reader} {vs : List V} → vs ≡ [] → others ≡ ks
      → Halfway ks A 0 others A vs
  none_read ks others {A} {vs} e q =
      subst (λ l. Halfway ks A 0 others A l) (sym e)
      (subst (λ l. Halfway ks A 0 l A []) (sym q) record {
        frame = λ u. u;
        goes = λ C u y. y;
        shows = λ w ws u h. h;
      })

  -- one more
  pub one_read : (ks others rest : List K) (n m : ℕ) (k : K) {A B C : Reader} {vs ws : List V}
      → ((j : K) → can_go_on marks (f j) ≡ []) → m ≡ suc n → others ≡ k ∷ rest
      → Halfway ks A n others B vs → ReadsNext (after n (f k)) (R k) B vs C ws
      → Halfway ks A m rest C ws
  one_read ks others rest n m k {A} {B} {C} {vs} {ws} closed e q half r =
      subst (λ i. Halfway ks A i rest C ws) (sym e) record {
        frame = λ u. h.frame (both r.shape u);
        goes = λ D u y. h.goes D (both r.shape u)
            (subst (λ g. Goes plain g B (node (both r.shape u)) D) (sym (left_seq n k rest))
            (then_goes (after_closed n k (closed k)) r.goes y));
        shows = λ w us u s.
            let x = r.is w in
            let wb = went_well r.goes w in
            subst (λ l. AreShown R ks (l ++ us) (h.frame (both r.shape u))) (sym x.2)
            (subst (λ l. AreShown R ks l (h.frame (both r.shape u)))
            (sym (append_assoc vs (x.0 ∷ []) us))
            (h.shows wb (x.0 ∷ us) (both r.shape u) (x.1, s)));
      }
    where
      h : Halfway ks A n (k ∷ rest) B vs
      h = subst (λ l. Halfway ks A n l B vs) q half

  more_closed : (ks : List K) → ((j : K) → can_go_on marks (f j) ≡ [])
      → can_go_on marks (more f ks) ≡ []
  more_closed [] closed = refl
  more_closed (k ∷ ks) closed = ap₂ (λ a b. a ++ b) (more_closed ks closed)
      (cond_nil (can_be_empty marks (more f ks)) (closed k))
    where
      cond_nil : {A : Type 0} {xs : List A} (b : Bool) → xs ≡ [] → cond b xs [] ≡ []
      cond_nil true e = e
      cond_nil false e = refl

  listed_closed : (ks : List K) → ((j : K) → can_go_on marks (f j) ≡ [])
      → can_go_on marks (listed f ks) ≡ []
  listed_closed [] closed = refl
  listed_closed (k ∷ ks) closed = ap₂ (λ a b. a ++ b) (more_closed ks closed)
      (cond_nil (can_be_empty marks (more f ks)) (closed k))
    where
      cond_nil : {A : Type 0} {xs : List A} (b : Bool) → xs ≡ [] → cond b xs [] ≡ []
      cond_nil true e = e
      cond_nil false e = refl

  -- all of them, in brackets
  pub all_read : (ks others : List K) (n : ℕ) {first last : Symbol} {A B C D : Reader} {vs : List V}
      → ((j : K) → can_go_on marks (f j) ≡ []) → others ≡ []
      → Takes (kind (token.Symbol first)) A B → Halfway ks B n others C vs
      → Takes (kind (token.Symbol last)) C D
      → Reads (enclosed first last f ks) (AreEnclosed R ks vs) A D
  all_read ks others n {A = A} {B} {C} {D} {vs} closed q x half y = record {
    shape = both (h.frame nothing) nothing;
    goes = take known x (then_goes (listed_closed ks closed) (h.goes C nothing (ended n))
        (last_goes y));
    is = λ w. subst (λ l. AreShown R ks l (h.frame nothing)) (append-nil vs)
        (h.shows (taken_well y w) [] nothing tt);
  }
    where
      h : Halfway ks B n [] C vs
      h = subst (λ l. Halfway ks B n l C vs) q half

      ended : (n : ℕ) → Goes plain (left_over n []) C (node nothing) C
      ended zero = done_goes
      ended (suc n) = done_goes
