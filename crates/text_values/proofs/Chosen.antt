-- Constants, as they are found and refused.
use Rattle.std.proofs.Common.{◌≡◌, ℕ, ◌+◌, ℤ, pos, negsuc, Bool, true, false, not, List}
use Rattle.std.proofs.Common.{[], ◌∷◌, take, refl, sym, ap, ap₂, ◌||◌, ◌∙◌, subst, arith, inl, inr}
use Rattle.std.proofs.Common.{Option}
use Rattle.std.proofs.Common.{Some, None, slice_get, bytes_eq, is_some}
use Rattle.std.specs.List.{list_any}
use Rattle.std.specs.Option.{unwrap_or, IsSomeAnd}
use Rattle.std.proofs.lemmas.Int.{ints}
use Rattle.std.proofs.lemmas.Map.Keys.{any_passes_from_place}
use Rattle.std.proofs.lemmas.Slice.Eq.{bytes_eq-Decides}
use Rattle.est_lexer.specs.declared.kind.Token.{Token}
use Rattle.est_lexer.specs.declared.tokens.Tokens.{Tokens}
use Rattle.est_lexer.specs.Offsets.{text_of, tokens_of}
use Rattle.text_reader.specs.Grammar.{meets, word, done, nothing, pick}
use Rattle.text_reader.specs.Grammar.{leaf, placed, both, left, right, some}
use Rattle.text_reader.specs.Marks.{MeetsOne, can_begin}
use Rattle.text_reader.specs.Findings.{Found}
use Rattle.text_reader.specs.Shown.{Shows, node, s_empty, s_kept, s_at, s_pair, s_first, s_second}
use Rattle.text_reader.specs.Shown.{s_given, s_node}
use Rattle.text_reader.proofs.GrammarLaws as laws
use Rattle.text_reader.proofs.GrammarLaws.{IsDistinct}
use Rattle.est_syntax.specs.declared.kind.Kind.{Kind}
use Rattle.est_values.specs.FittingValues.{IsOrdinalOf}
use Rattle.est_values.specs.OrdinalTuples.{ordinals_of}
use Rattle.text_reader.specs.declared.reader.Reader.{Reader}
use Rattle.text_reader.specs.declared.outcome.Outcome.TheVariants.{Well}
use Rattle.text_reader.specs.Tests.{Test, named, holds, stands, language}
use Rattle.text_reader.specs.Moving.{Still, Steps}
use Rattle.text_reader.specs.Going.{Shape, Finds, Fails, Goes}
use Rattle.text_reader.proofs.Apart.{one_name}
use Rattle.text_reader.proofs.Going.{from}
use Rattle.text_reader.proofs.Steps.{onto, after, same_on, was_well}
use Rattle.text_values.specs.TraceGrammar.{Rule, constant, numbered_constant, constants}
use Rattle.text_values.specs.TraceGrammar.{production, marks}
use Rattle.text_values.specs.ValueReading.{plain, layer, Reads}
use Rattle.text_values.specs.ValueShapes.{ShowsConstant}
use Rattle.text_values.specs.inside.Looking.{Begins, IsFirstThere, IsConstantOf, IsFound}
use Rattle.text_values.specs.inside.Looking.{some_there}
use Rattle.text_values.proofs.Known.{fits}
use Rattle.text_values.proofs.Solid.{constant_solid, constants_solid}
use Rattle.text_values.proofs.Places.{some_same, negated, first_is_one}
use Rattle.text_values.proofs.Places.{first_false, second_false}
use Rattle.text_values.proofs.Numbering.{ordinal_here, ordinal_there, place_of}
use Rattle.text_values.proofs.Walks.{wrong_goes, not_well}

-- a token that meets one of a single test
pub only_one : (text : List ℕ) (k : Test) (o : Option Token) → MeetsOne (holds text) o (k ∷ [])
    → meets (holds text) k o ≡ true
only_one text k o (inl e) = e
only_one text k o (inr e) = elim e [ ]

-- What is known of a constant that a token begins.
record Begun (text : List ℕ) (o : Option Token) (names : List (List ℕ)) (z : ℤ) : Type 0 where
  number : ℕ
  name : List ℕ
  is : z ≡ pos number
  there : slice_get names number ≡ Some name
  first : list_any (bytes_eq name) (take number names) ≡ false
  met : meets (holds text) (named name) o ≡ true

numbered_begun : (text : List ℕ) (o : Option Token) (names : List (List ℕ)) (n : ℕ)
    (given : Option (List ℕ)) → slice_get names n ≡ given
    → MeetsOne (holds text) o (can_begin marks (numbered_constant names n given))
    → Begun text o names (pos n)
numbered_begun text o names n None e m = absurd m
numbered_begun text o names n (Some name) e m =
    let b = laws.when_begins (holds text) marks (not (list_any (bytes_eq name) (take n names)))
    (word (named name) done) o m in
    record {
      number = n;
      name = name;
      is = refl;
      there = e;
      first = negated (list_any (bytes_eq name) (take n names)) b.0;
      met = only_one text (named name) o b.1;
    }

begun : (text : List ℕ) (o : Option Token) (names : List (List ℕ)) (z : ℤ)
    → MeetsOne (holds text) o (can_begin marks (constant names z)) → Begun text o names z
begun text o names (pos n) m = numbered_begun text o names n (slice_get names n) refl m
begun text o names (negsuc n) m = absurd m

-- one token begins one constant
pub constants_distinct : (text : List ℕ) (names : List (List ℕ)) (k : Kind)
    → IsDistinct (language production text) marks (constant names) (ordinals_of k)
constants_distinct text names k o i j x y e f m w =
    let p = begun text o names x m in
    let q = begun text o names y w in
    let s : p.name ≡ q.name = (bytes_eq-Decides p.name q.name).0
    (one_name text p.name q.name o p.met q.met) in
    let n = first_is_one names p.number q.number q.name
    (subst (λ v. slice_get names p.number ≡ Some v) s p.there)
    (subst (λ v. list_any (bytes_eq v) (take p.number names) ≡ false) s p.first) q.there q.first in
    let same : x ≡ y = p.is ∙ (ap pos n ∙ sym q.is) in
    let u = (ordinal_here k i x e).0 in
    let v = (ordinal_here k j y f).0 in
    omega (arith, ints, same, u, v)

-- each shape shows itself
pub itself : (t : Shape) → Shows layer (node t) t
itself nothing = s_node s_empty
itself (leaf v) = s_node (s_kept v)
itself (placed p t) = s_node (s_at p (itself t))
itself (both t u) = s_node (s_pair (itself t) (itself u))
itself (left t) = s_node (s_first (itself t))
itself (right t) = s_node (s_second (itself t))
itself (some t) = s_node (s_given (itself t))

-- a reader that has read nothing before
pub still_goes : {g : Rule} {A B C : Reader} {t : Shape} → Still A B → Goes plain g B (node t) C
    → Goes plain g A (node t) C
still_goes {g} {A} {B} {C} {t} s y =
    let tk = A.tokens.now in
    record {
      moves = after (λ b. b ≡ A.at) (Finds plain tk g A.levels B.at (node t))
          (Finds plain tk g A.levels A.at (node t)) (λ b z. ⊥) (Fails plain tk g A.levels B.at)
          (Fails plain tk g A.levels A.at) A.at B.at C.at A.outcome B.outcome C.outcome
          (λ e p q. subst (λ a. Finds plain tk g A.levels a (node t) C.at) p q)
          (λ e z p q. subst (λ a. Fails plain tk g A.levels a C.at z) p q)
          (λ e z q. absurd q) s.stays (from s.same y);
      same = same_on s.same y.same;
    }

-- a constant that a token begins is that token
numbered_here : (tk : Tokens) (d a : ℕ) (names : List (List ℕ)) (n : ℕ) (given : Option (List ℕ))
    → Begins tk a (numbered_constant names n given)
    → Found (language production (text_of tk)) marks (tokens_of tk)
    (numbered_constant names n given) d a (a + 1) nothing
numbered_here tk d a names n None m = absurd m
numbered_here tk d a names n (Some name) m =
    let o = slice_get (tokens_of tk) a in
    let b = laws.when_begins (holds (text_of tk)) marks
    (not (list_any (bytes_eq name) (take n names))) (word (named name) done) o m in
    laws.when_found b.0 (laws.word_end (fits (text_of tk))
    (only_one (text_of tk) (named name) o b.1))

constant_here : (tk : Tokens) (d a : ℕ) (names : List (List ℕ)) (z : ℤ)
    → Begins tk a (constant names z)
    → Found (language production (text_of tk)) marks (tokens_of tk) (constant names z) d a (a + 1)
    nothing
constant_here tk d a names (pos n) m = numbered_here tk d a names n (slice_get names n) m
constant_here tk d a names (negsuc n) m = absurd m

module _ (names : List (List ℕ)) (k : Kind) where
  -- a constant that is taken
  taken_goes : (z : ℤ) {B C : Reader} → (B.outcome ≡ Well → IsFound names k B.tokens.now B.at
      (Some z)) → Steps true B C
      → Goes plain (constants names k) B (node (pick (place_of k z) nothing)) C
  taken_goes z {B} {C} h x =
      let tk = B.tokens.now in
      let g = constants names k in
      let t = pick (place_of k z) nothing in
      let here = λ (f : IsFound names k tk B.at (Some z)).
      laws.one_of_found (fits (text_of tk)) (constant names) (constant_solid names) (ordinals_of k)
      (place_of k z) z (constants_distinct (text_of tk) names k) (ordinal_there k z f.0)
      (constant_here tk B.levels B.at names z f.1) in
      record {
        moves = onto (λ b. (true ≡ true) × (b ≡ B.at + 1)) (Finds plain tk g B.levels B.at (node t))
            (λ b w. (true ≡ false) × (b ≡ B.at) × (w ≡ false)) (Fails plain tk g B.levels B.at) B.at
            C.at B.outcome C.outcome
            (λ w p. (
              t,
              subst (λ i. Found (language production (text_of tk)) marks (tokens_of tk) g
                  B.levels B.at i t) (sym p.1) (here (h w)),
              itself t,
            ))
            (λ w v q. absurd (let r : true ≡ false = q.0 in cc))
            x.steps;
        same = x.same;
      }

  moved : (o : Option ℤ) {A B : Reader} → Still A B → IsFound names k A.tokens.now A.at o
      → IsFound names k B.tokens.now B.at o
  moved o {A} {B} s f = subst (λ ts. IsFound names k ts B.at o) (sym s.same.tokens)
      (subst (λ a. IsFound names k A.tokens.now a o) (sym s.place) f)

  -- a constant that is looked up and then taken, or none
  pub constant_goes : (o : Option ℤ) {A B C : Reader} → Still A B
      → (B.outcome ≡ Well → IsFound names k A.tokens.now A.at o) → Steps (is_some o) B C
      → Reads (constants names k) (λ t. ShowsConstant k (unwrap_or o (pos 0)) t) A C
  constant_goes (Some z) {A} {B} {C} s h x = record {
    shape = pick (place_of k z) nothing;
    goes = still_goes s (taken_goes z (λ w. moved (Some z) s (h w)) x);
    is = λ w. (
      place_of k z,
      ordinal_there k z (h (was_well (λ b. (true ≡ true) × (b ≡ B.at + 1))
          (λ b v. (true ≡ false) × (b ≡ B.at) × (v ≡ false)) B.at C.at B.outcome C.outcome x.steps
          w)).0,
      refl,
    );
  }
  constant_goes None {A} {B} {C} s h x = record {
    shape = nothing;
    goes = still_goes s (wrong_goes x (constants_solid names k) (λ w. moved None s (h w)));
    is = λ w. absurd (not_well x w);
  }

  pub constant_read : (o : Option ℤ) (b : Bool) (z : ℤ) {A B C : Reader} → Still A B
      → (B.outcome ≡ Well → IsFound names k A.tokens.now A.at o) → b ≡ is_some o → Steps b B C
      → z ≡ unwrap_or o (pos 0) → Reads (constants names k) (λ t. ShowsConstant k z t) A C
  constant_read o b z {A} {B} {C} s h e x f =
      subst (λ y. Reads (constants names k) (λ t. ShowsConstant k y t) A C) (sym f)
      (constant_goes o s h (subst (λ c. Steps c B C) e x))

  -- the look-up of a name
  module _ (tokens : Tokens) (at : ℕ) where
    abbrev o : Option Token
    o = slice_get (tokens_of tokens) at

    none_begun : ((i : ℕ) (y : ℤ) → slice_get (ordinals_of k) i ≡ Some y
        → Begun (text_of tokens) o names y → ⊥) → IsFound names k tokens at None
    none_begun h m =
        let r = laws.one_of_begins (language production (text_of tokens)) marks (constant names)
        (ordinals_of k) o m in
        h r.0 r.1 r.2 (begun (text_of tokens) o names r.1 r.3)

    pub none_there : some_there names tokens at ≡ false → IsFound names k tokens at None
    none_there f = none_begun (λ i y e b.
        let w : some_there names tokens at ≡ true =
        any_passes_from_place (λ name. stands tokens at (named name)) names b.number b.name b.there
        b.met in cc)

    -- the name of the constant that is the first to stand there
    module _ (name : List ℕ) (there : stands tokens at (named name) ≡ true) where
      none_named : (xs : List (List ℕ)) → some_there xs tokens at ≡ false
          → list_any (bytes_eq name) xs ≡ false
      none_named [] f = refl
      none_named (x ∷ xs) f = here (bytes_eq name x) refl
          (none_named xs (second_false (stands tokens at (named x)) _ f))
        where
          here : (b : Bool) → bytes_eq name x ≡ b → list_any (bytes_eq name) xs ≡ false
              → (bytes_eq name x || list_any (bytes_eq name) xs) ≡ false
          here false e rest = ap₂ (λ a c. a || c) e rest
          here true e rest =
              let q : name ≡ x = (bytes_eq-Decides name x).0 e in
              let w : stands tokens at (named x) ≡ true =
              subst (λ v. stands tokens at (named v) ≡ true) q there in
              let v : stands tokens at (named x) ≡ false =
              first_false (stands tokens at (named x)) _ f in absurd cc

      module _ (p : ℕ) (at_place : slice_get names p ≡ Some name)
          (before : some_there (take p names) tokens at ≡ false) where
        first : list_any (bytes_eq name) (take p names) ≡ false
        first = none_named (take p names) before

        begins : (given : Option (List ℕ)) → given ≡ Some name
            → Begins tokens at (numbered_constant names p given)
        begins None e = absurd cc
        begins (Some x) e =
            let q : name ≡ x = sym (some_same e) in
            let w : not (list_any (bytes_eq x) (take p names)) ≡ true =
            ap not (subst (λ v. list_any (bytes_eq v) (take p names) ≡ false) q first) in
            laws.when_meets (holds (text_of tokens)) marks
            (not (list_any (bytes_eq x) (take p names))) (word (named x) done) o w
            (inl (subst (λ v. stands tokens at (named v) ≡ true) q there))

        none_within : (IsOrdinalOf k (pos p) → ⊥) → IsFound names k tokens at None
        none_within n = none_begun (λ i y e b.
            let q : b.name ≡ name = (bytes_eq-Decides b.name name).0
            (one_name (text_of tokens) b.name name o b.met there) in
            let m : b.number ≡ p = first_is_one names b.number p name
            (subst (λ v. slice_get names b.number ≡ Some v) q b.there)
            (subst (λ v. list_any (bytes_eq v) (take b.number names) ≡ false) q b.first) at_place
            first in
            n (subst (IsOrdinalOf k) (b.is ∙ ap pos m) (ordinal_here k i y e).1))

        found_at : (z : Option ℤ) → IsConstantOf k (Some p) z → IsFound names k tokens at z
        found_at None c = none_within (c p refl)
        found_at (Some z) c =
            let q : p ≡ c.0 = some_same c.1 in
            let e : pos p ≡ z = ap pos q ∙ sym c.2 in (
              c.3,
              subst (λ y. Begins tokens at (constant names y)) e
                  (begins (slice_get names p) at_place),
            )

    pub found : (place : Option ℕ) (z : Option ℤ) → IsFirstThere names tokens at place
        → IsConstantOf k place z → IsFound names k tokens at z
    found None (Some z) f c = absurd (let q : None ≡ Some c.0 = c.1 in cc)
    found None None f c = none_there f
    found (Some p) z f c = from (slice_get names p) refl f.1
      where
        from : (given : Option (List ℕ)) → slice_get names p ≡ given
            → IsSomeAnd given (λ name. stands tokens at (named name) ≡ true)
            → IsFound names k tokens at z
        from None e t = absurd t
        from (Some name) e t = found_at name t p e f.0 z c
