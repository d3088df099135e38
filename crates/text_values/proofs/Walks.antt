-- From what the parts of a reader do to what the whole does, by shapes.
use Rattle.std.proofs.Common.{◌≡◌, ℕ, ◌+◌, ◌<◌, ◌≤◌, Bool, true, false, cond, List, [], ◌∷◌, ◌++◌}
use Rattle.std.proofs.Common.{length, refl, sym, ap, ◌∙◌, subst, arith, inl, inr, slice_get}
use Rattle.std.proofs.Common.{append-nil}
use Rattle.est_lexer.specs.Offsets.{text_of, tokens_of}
use Rattle.text_reader.specs.Grammar.{Grammar, Language, word, done, none, seq, alt, Tree, Partial}
use Rattle.text_reader.specs.Grammar.{Shape, nothing, both, left, right, t_left, t_right, p_none}
use Rattle.text_reader.specs.Grammar.{p_whole, p_left, p_right, chain}
use Rattle.text_reader.specs.Opening.{o_right}
use Rattle.text_reader.specs.Marks.{Marks, MeetsOne, Apart, Fits, can_begin, can_go_on}
use Rattle.text_reader.specs.Marks.{can_be_empty, disjoint}
use Rattle.text_reader.specs.Findings.{Refused, SpeaksOf}
use Rattle.text_reader.specs.Shown.{Shows, node, nodes, s_first, s_second, s_none, s_more}
use Rattle.text_reader.specs.Shown.{s_node, s_empty, s_pair}
use Rattle.text_reader.proofs.GrammarLaws as laws
use Rattle.text_reader.proofs.Members.{In-right}
use Rattle.text_reader.proofs.Trees
use Rattle.text_reader.proofs.Trees.{step}
use Rattle.text_reader.specs.declared.reader.Reader.{Reader}
use Rattle.text_reader.specs.declared.outcome.Outcome.{Outcome}
use Rattle.text_reader.specs.declared.outcome.Outcome.TheVariants.{Well, Wrong, TooDeep, NoMemory}
use Rattle.text_reader.specs.Tests.{Test, apart, language}
use Rattle.text_reader.specs.Moving.{Does, Sees, Steps, Takes}
use Rattle.text_reader.specs.Going as going
use Rattle.text_reader.specs.Going.{Finds, Fails, Goes}
use Rattle.text_reader.proofs.Going.{goes_onto, part, then, last, none_goes}
use Rattle.text_reader.proofs.Apart.{far}
use Rattle.text_reader.proofs.Steps.{onto, sees_it}
use Rattle.text_values.specs.TraceGrammar.{Rule, production, marks}
use Rattle.text_values.specs.ValueReading.{plain, layer}
use Rattle.text_values.specs.inside.Looking.{Begins}
use Rattle.text_values.proofs.Known.{fits, known}

-- The second alternative, where the token cannot begin the first.
right_refused : {Token V T P : Type 0} {L : Language Token V T P} {S : Marks T P} (f : Fits L S)
    {s : List Token} (g : Grammar T P) {h : Grammar T P} {d a i : ℕ} {w : Bool}
    → (MeetsOne L.holds (slice_get s a) (can_begin S g) → ⊥) → can_be_empty S g ≡ false
    → Refused L S s h d a i w → Refused L S s (alt g h) d a i w
right_refused {V = V} {L = L} {S} f {s} g {h} {d} {a} {i} {w} k e x = record {
  partial = p_right x.partial;
  inside = x.inside;
  only = only;
  most = most;
  more = λ z. ((x.more z).0, o_right (x.more z).1);
}
  where
    only : (e' n r : ℕ) (v : Shape V) → SpeaksOf w d e' → a ≤ n → n ≤ length s
        → Tree L s n (alt g h) e' a r v
        → (r ≤ i) × (r < n → MeetsOne L.holds (slice_get s r) (can_go_on S (alt g h)))
        × (r < length s)
    only e' n r v z l m (t_right x') = let o = x.only e' n r _ z l m x'
        in (o.0, (λ y. In-right L.holds (slice_get s r) (can_go_on S g) _ (o.1 y)), o.2)
    only e' n r v z l m (t_left x') =
        absurd (k (Trees.tree_starts L s S f n x' (Trees.tree_moves L s S f n x' e)))

    most : (e' n : ℕ) → SpeaksOf w d e' → a ≤ n → n ≤ length s → Partial L s n (alt g h) e' a
        → n ≤ i
    most e' n z l m (p_none q) = omega (arith, Trees.partial_forward L s i x.partial)
    most e' n z l m (p_whole x' q) = omega (arith, (only e' n _ _ z l m x').0)
    most e' n z l m (p_right x') = x.most e' n z l m x'
    most e' n z l m (p_left x') = elim (step a n l) [
      | inl r ↦ absurd (k (Trees.partial_starts L s S f n x' r))
      | inr r ↦ omega (arith, r, Trees.partial_forward L s i x.partial)
    ]

-- what is known of the place that is reached, where all goes well in the end
pub reached : (P : ℕ → Type 0) (Q : ℕ → Bool → Type 0) (a b : ℕ) (o o' : Outcome)
    → Does P Q a o b o' → o' ≡ Well → P b
reached P Q a b Well Well x e = x
reached P Q a b Well Wrong x e = absurd cc
reached P Q a b Well TooDeep x e = absurd cc
reached P Q a b Well NoMemory x e = absurd cc
reached P Q a b Wrong o' x e = absurd (let f : o' ≡ Wrong = x.0 in cc)
reached P Q a b TooDeep o' x e = absurd (let f : o' ≡ TooDeep = x.0 in cc)
reached P Q a b NoMemory o' x e = absurd (let f : o' ≡ NoMemory = x.0 in cc)

-- nothing goes well after a token that is refused
pub not_well : {A B : Reader} → Steps false A B → B.outcome ≡ Well → ⊥
not_well {A} {B} x e =
    let r = reached (λ b. (false ≡ true) × (b ≡ A.at + 1))
    (λ b z. (false ≡ false) × (b ≡ A.at) × (z ≡ false)) A.at B.at A.outcome B.outcome x.steps e in
    let f : false ≡ true = r.0 in cc

-- no token begins both
abbrev pub AreApart : Rule → Rule → Type 0
AreApart g h = (text : List ℕ)
    → Apart (language production text) (can_begin marks g) (can_begin marks h)

-- the token that comes next does not begin g
abbrev pub NotBegun : Reader → Rule → Type 0
NotBegun A g = A.outcome ≡ Well → Begins A.tokens.now A.at g → ⊥

-- a token that is seen begins nothing that is apart from it
pub seen_not : {k : Test} {A : Reader} (g : Rule)
    → disjoint apart (k ∷ []) (can_begin marks g) ≡ true → Sees A k true → NotBegun A g
seen_not {k} {A} g e s w m = (far production (text_of A.tokens.now) (k ∷ []) (can_begin marks g)
    e).none_meets (slice_get (tokens_of A.tokens.now) A.at) (inl (sees_it s)) m

-- what can be left out of no tree begins the whole
pub begins_seq : (g h : Rule) → can_be_empty marks g ≡ false
    → can_begin marks (seq g h) ≡ can_begin marks g
begins_seq g h e =
    ap (λ b. can_begin marks g ++ cond b (can_begin marks h) []) e ∙ append-nil (can_begin marks g)

-- one of two alternatives
pub first_goes : {g h : Rule} {A B : Reader} {t : going.Shape} → AreApart g h
    → can_be_empty marks g ≡ false → can_be_empty marks h ≡ false → NotBegun A h
    → Goes plain g A (node t) B → Goes plain (alt g h) A (node (left t)) B
first_goes {g} {h} {A} {B} {t} D e f n x = let F = fits (text_of A.tokens.now) in part refl
    (goes_onto
    (λ w q. (left q.0, laws.left_found F (D (text_of A.tokens.now)) e f q.1, s_first q.2))
    (λ w z q. laws.left_refused_else F (n w) f q) x)

pub second_goes : {g h : Rule} {A B : Reader} {t : going.Shape} → AreApart g h
    → can_be_empty marks g ≡ false → can_be_empty marks h ≡ false → NotBegun A g
    → Goes plain h A (node t) B → Goes plain (alt g h) A (node (right t)) B
second_goes {g} {h} {A} {B} {t} D e f n x = let F = fits (text_of A.tokens.now) in part refl
    (goes_onto
    (λ w q. (right q.0, laws.right_found F (D (text_of A.tokens.now)) e f q.1, s_second q.2))
    (λ w z q. right_refused F g (n w) e q) x)

-- a token that cannot begin it
pub wrong_goes : {g : Rule} {A B : Reader} {t : going.Shape} → Steps false A B
    → can_be_empty marks g ≡ false → NotBegun A g → Goes plain g A (node t) B
wrong_goes {g} {A} {B} {t} x e n =
    let tk = A.tokens.now in
    record {
      moves = onto (λ b. (false ≡ true) × (b ≡ A.at + 1)) (Finds plain tk g A.levels A.at (node t))
          (λ b z. (false ≡ false) × (b ≡ A.at) × (z ≡ false)) (Fails plain tk g A.levels A.at) A.at
          B.at A.outcome B.outcome (λ w q. absurd (let r : false ≡ true = q.0 in cc))
          (λ w z q. subst (λ v. Fails plain tk g A.levels A.at B.at v) (sym q.2)
          (subst (λ i. Fails plain tk g A.levels A.at i false) (sym q.1)
          (laws.refused_here (fits (text_of tk)) e A.inside (n w))))
          x.steps;
      same = x.same;
    }

pub none_wrong : {A B : Reader} {t : going.Shape} → Steps false A B → Goes plain none A (node t) B
none_wrong x = wrong_goes x refl (λ w m. m)

-- one after the other, where nothing goes on after the first
pub then_goes : {g h : Rule} {A B C : Reader} {t u : going.Shape} → can_go_on marks g ≡ []
    → Goes plain g A (node t) B → Goes plain h B (node u) C
    → Goes plain (seq g h) A (node (both t u)) C
then_goes {g} {h} e x y = part refl (then known
    (subst (λ ks. disjoint apart ks (can_begin marks h) ≡ true) (sym e) refl) x y)

-- the last token, and nothing more
pub last_goes : {k : Test} {A B : Reader} → Takes k A B
    → Goes plain (word k done) A (node nothing) B
last_goes x = part refl (last known x)

pub done_goes : {A : Reader} → Goes plain done A (node nothing) A
done_goes = part refl (none_goes known)

-- parts one after the other show a chain
chained : (ts : List going.Shape) (t : going.Shape) → Shows layer (nodes ts) t
    → Shows layer (node (chain ts nothing)) t
chained [] _ s_none = s_node s_empty
chained (u ∷ ts) _ (s_more x y) = s_node (s_pair x (chained ts _ y))

pub chain_goes : {g : Rule} {A B : Reader} {ts : List going.Shape} → Goes plain g A (nodes ts) B
    → Goes plain g A (node (chain ts nothing)) B
chain_goes {ts = ts} x = goes_onto (λ w q. (q.0, q.1, chained ts q.0 q.2)) (λ w z q. q) x
