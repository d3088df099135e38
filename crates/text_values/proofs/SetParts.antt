-- Sets and scalars, as they are read.
use Rattle.std.proofs.Common.{◌≡◌, ℕ, ◌<◌, ℤ, pos, negsuc, ◌+ℤ◌, Bool, true, false, not, ◌&&◌, List}
use Rattle.std.proofs.Common.{[], ◌∷◌, ◌++◌, refl, sym, ap, ap₂, ◌∙◌, subst, arith, inl, inr}
use Rattle.std.proofs.Common.{◌⊎◌, ◌↔◌, Option, Some, None, slice_get, bytes_eq}
use Rattle.std.specs.List.{list_any}
use Rattle.std.proofs.Common as common
use Rattle.std.proofs.Common.{◌≤ℤ◌, w32}
use Rattle.std.proofs.lemmas.Int.{ints}
use mir.Val.{SFits}
use Rattle.est_lexer.specs.declared.kind.TokenKind.TheVariants.{Symbol}
use Rattle.est_lexer.specs.declared.kind.Symbol.TheVariants as symbols
use Rattle.est_lexer.specs.Offsets.{text_of, tokens_of}
use Rattle.text_reader.specs.Grammar.{word, done, seq, rep, when, one_of, nothing, both, left}
use Rattle.text_reader.specs.Grammar.{right, chain, leaf, placed, some}
use Rattle.text_reader.specs.Marks.{MeetsOne, can_begin, can_go_on, can_be_empty, disjoint}
use Rattle.text_reader.specs.Shown.{node, Shows, s_node, s_empty, s_kept, s_at, s_pair, s_first}
use Rattle.text_reader.specs.Shown.{s_second, s_given}
use Rattle.text_reader.proofs.Members.{and_left, and_right}
use Rattle.est_syntax.specs.declared.kind.Kind.{Kind, out-Kind}
use Rattle.est_syntax.specs.declared.kind.Kind.TheOpen as kinds
use Rattle.est_values.specs.FittingValues.{first_ordinal, last_ordinal, KindLayer, IsOrdinalOf}
use Rattle.est_values.specs.OrdinalTuples.{ordinals_of}
use Rattle.text_reader.specs.declared.reader.Reader.{Reader}
use Rattle.text_reader.specs.declared.outcome.Outcome.TheVariants.{Well}
use Rattle.text_reader.specs.Tests.{Test, kind, named, number, character, apart, holds, stands}
use Rattle.text_reader.specs.Moving.{Sees, Takes}
use Rattle.text_reader.specs.Going as going
use Rattle.text_reader.specs.Going.{Finds, Fails, Goes}
use Rattle.text_reader.proofs.Apart.{far}
use Rattle.text_reader.proofs.Going.{part, take, then, went_well}
use Rattle.text_reader.proofs.Turns.{Turning, Each, one_part, more_parts, all_parts, lessens}
use Rattle.text_reader.proofs.Steps.{sees_it, sees_not, still_here, left_of, taken_well}
use Rattle.text_values.specs.TraceGrammar as grammar
use Rattle.text_values.specs.TraceGrammar.{Rule, symbol, numbered_constant, constant, constants}
use Rattle.text_values.specs.TraceGrammar.{integers, characters, boolean_names, bytes_of}
use Rattle.text_values.specs.TraceGrammar.{host_by, ordinal_by, ordinal, members, scalar, formed}
use Rattle.text_values.specs.TraceGrammar.{production, marks}
use Rattle.text_values.specs.ValueReading.{plain, layer, Reads}
use Rattle.text_values.specs.ValueShapes.{ShowsOrdinal, IsAmong, ShowsMembers, ShowsSet}
use Rattle.text_values.specs.inside.Gathering.{IsAscending, with_member, ReadsMember}
use Rattle.text_values.proofs.Closed.{ordinal_closed}
use Rattle.text_values.proofs.Solid.{ordinal_solid}
use Rattle.text_values.proofs.Known.{known}
use Rattle.text_values.proofs.Members.{with_ascends, in_with}
use Rattle.text_values.proofs.OneValue.{one_ordinal}
use Rattle.text_values.proofs.FitsShown.{ordinal_fits}
use Rattle.text_values.proofs.Walks.{AreApart, NotBegun, begins_seq, first_goes, second_goes}
use Rattle.text_values.proofs.Walks.{last_goes, chain_goes, reached}

-- WHAT BEGINS AN ORDINAL

-- a test that no token meets which begins an ordinal
record IsOther (s : Test) : Type 0 where
  of_names : (name : List ℕ) → apart (named name) s ≡ true
  of_numbers : (low high : ℕ) → apart (number low high) s ≡ true
  of_characters : (low high : ℕ) → apart (character low high) s ≡ true
  of_minus : apart (kind (Symbol symbols.Minus)) s ≡ true

abbrev pub underscore : Test
underscore = kind (Symbol symbols.Underscore)

abbrev bracket : Test
bracket = kind (Symbol symbols.RightBracket)

abbrev comma : Test
comma = kind (Symbol symbols.Comma)

other_underscore : IsOther underscore
other_underscore = record {
  of_names = λ name. refl;
  of_numbers = λ low high. refl;
  of_characters = λ low high. refl;
  of_minus = refl;
}

other_bracket : IsOther bracket
other_bracket = record {
  of_names = λ name. refl;
  of_numbers = λ low high. refl;
  of_characters = λ low high. refl;
  of_minus = refl;
}

module _ (s : Test) (other : IsOther s) where
  abbrev IsFar : List Test → Type 0
  IsFar ks = disjoint apart ks (s ∷ []) ≡ true

  far_one : (k : Test) → apart k s ≡ true → IsFar (k ∷ [])
  far_one k e = ap (λ b. (b && true) && true) e

  far_both : (xs ys : List Test) → IsFar xs → IsFar ys → IsFar (xs ++ ys)
  far_both [] ys e f = f
  far_both (x ∷ xs) ys e f =
      ap₂ (λ a b. a && b) (and_left (apart x s && true) _ e)
      (far_both xs ys (and_right (apart x s && true) _ e) f)

  far_when : (b : Bool) (name : List ℕ)
      → IsFar (can_begin marks (when b (word (named name) done)))
  far_when true name = far_one (named name) (other.of_names name)
  far_when false name = refl

  far_numbered : (names : List (List ℕ)) (n : ℕ) (o : Option (List ℕ))
      → IsFar (can_begin marks (numbered_constant names n o))
  far_numbered names n None = refl
  far_numbered names n (Some name) = far_when (not (list_any (bytes_eq name) (common.take n names))) name

  far_constant : (names : List (List ℕ)) (z : ℤ) → IsFar (can_begin marks (constant names z))
  far_constant names (pos n) = far_numbered names n (slice_get names n)
  far_constant names (negsuc n) = refl

  far_among : (names : List (List ℕ)) (zs : List ℤ)
      → IsFar (can_begin marks (one_of (constant names) zs))
  far_among names [] = refl
  far_among names (z ∷ zs) = far_both (can_begin marks (constant names z))
      (can_begin marks (one_of (constant names) zs)) (far_constant names z) (far_among names zs)

  far_integers : (low high : ℤ) → IsFar (can_begin marks (integers low high))
  far_integers (pos a) (pos b) = far_one (number a b) (other.of_numbers a b)
  far_integers (pos a) (negsuc b) = refl
  far_integers (negsuc a) (pos b) = far_both (number 0 b ∷ []) (kind (Symbol symbols.Minus) ∷ [])
      (far_one (number 0 b) (other.of_numbers 0 b))
      (far_one (kind (Symbol symbols.Minus)) other.of_minus)
  far_integers (negsuc a) (negsuc b) = far_one (kind (Symbol symbols.Minus)) other.of_minus

  far_characters : (low high : ℤ) → IsFar (can_begin marks (characters low high))
  far_characters low (pos b) =
      far_both (character (grammar.to_natural low) b ∷ [])
      (can_begin marks (grammar.coded (grammar.to_natural low) b))
      (far_one (character (grammar.to_natural low) b)
      (other.of_characters (grammar.to_natural low) b)) (far_one (named (common.codes "chr"))
      (other.of_names (common.codes "chr")))
  far_characters low (negsuc b) = refl

  far_by : (l : KindLayer) (k : Kind) → IsFar (can_begin marks (ordinal_by l k))
  far_by kinds.Integer k = far_integers (first_ordinal k) (last_ordinal k)
  far_by kinds.Boolean k = far_among boolean_names (ordinals_of k)
  far_by kinds.Char k = far_characters (first_ordinal k) (last_ordinal k)
  far_by (kinds.Enumeration declared names) k = far_among (bytes_of names) (ordinals_of k)
  far_by (kinds.Part host low high) k = refl
  far_by (kinds.SetOf base) k = refl
  far_by (kinds.ArrayOf index of) k = refl
  far_by (kinds.Fields fields) k = refl

  far_ordinal : (k : Kind) → IsFar (can_begin marks (ordinal k))
  far_ordinal k = far_by (out-Kind (host_by (out-Kind k) k)) k

abbrev pub question : Test
question = kind (Symbol symbols.QuestionMark)

other_question : IsOther question
other_question = record {
  of_names = λ name. refl;
  of_numbers = λ low high. refl;
  of_characters = λ low high. refl;
  of_minus = refl;
}

far_scalar : (k : Kind)
    → disjoint apart (can_begin marks (scalar (ordinal k))) (question ∷ []) ≡ true
far_scalar k = far_both question other_question (can_begin marks (ordinal k)) (underscore ∷ [])
    (far_ordinal question other_question k) (far_one question other_question underscore refl)

far_formed : (rest : Kind → Rule) (l : KindLayer) (k : Kind)
    → disjoint apart (can_begin marks (formed rest l k)) (question ∷ []) ≡ true
far_formed rest kinds.Integer k = far_scalar k
far_formed rest kinds.Boolean k = far_scalar k
far_formed rest kinds.Char k = far_scalar k
far_formed rest (kinds.Enumeration declared names) k = far_scalar k
far_formed rest (kinds.Part host low high) k = far_scalar k
far_formed rest (kinds.SetOf base) k = refl
far_formed rest (kinds.ArrayOf index of) k = refl
far_formed rest (kinds.Fields fields) k = refl

-- SCALARS

abbrev undefined : Rule
undefined = symbol symbols.Underscore done

pub ordinal_apart : (k : Kind) → AreApart (ordinal k) undefined
ordinal_apart k text = far production text _ _ (far_ordinal underscore other_underscore k)

pub set_apart : (base : Kind) → AreApart (grammar.set base) undefined
set_apart base text = far production text _ _ refl

-- a token that is not seen begins nothing that it alone begins
unseen : (k : Test) (g : Rule) {A : Reader} → can_begin marks g ≡ k ∷ [] → Sees A k false
    → NotBegun A g
unseen k g {A} e s w m = by (subst (λ ks. Begun ks) e m)
  where
    Begun : List Test → Type 0
    Begun ks = MeetsOne (holds (text_of A.tokens.now)) (slice_get (tokens_of A.tokens.now) A.at) ks

    by : Begun (k ∷ []) → ⊥
    by (inl q) = let f : stands A.tokens.now A.at k ≡ false = sees_not w s in cc
    by (inr q) = q

module _ (g : Rule) (D : AreApart g undefined) (solid : can_be_empty marks g ≡ false) where
  begun_apart : {A : Reader} → Sees A underscore true → NotBegun A g
  begun_apart {A} s w m =
      (D (text_of A.tokens.now)).none_meets (slice_get (tokens_of A.tokens.now) A.at) m
      (inl (sees_it s))

  pub undefined_goes : {A B : Reader} → Sees A underscore true → Takes underscore A B
      → Goes plain (scalar g) A (node (right nothing)) B
  undefined_goes s x = second_goes D solid refl (begun_apart s) (last_goes x)

  pub defined_goes : {A B : Reader} {t : going.Shape} → Sees A underscore false
      → Goes plain g A (node t) B → Goes plain (scalar g) A (node (left t)) B
  defined_goes s x = first_goes D solid refl (unseen underscore undefined refl s) x

-- ANY VALUE

abbrev any : Rule
any = symbol symbols.QuestionMark done

pub any_apart : (rest : Kind → Rule) (k : Kind) → AreApart any (formed rest (out-Kind k) k)
any_apart rest k text = record {
  none_meets = λ o h w. (far production text _ _ (far_formed rest (out-Kind k) k)).none_meets o w h;
}

module _ (g : Rule) (D : AreApart any g) (solid : can_be_empty marks g ≡ false) where
  pub any_goes : {A B : Reader} → Sees A question true → Takes question A B
      → Goes plain (grammar.unseen g) A (node (left nothing)) B
  any_goes {A} s x = first_goes D refl solid
      (λ w m. (D (text_of A.tokens.now)).none_meets (slice_get (tokens_of A.tokens.now) A.at)
      (inl (sees_it s)) m) (last_goes x)

  pub other_goes : {A B : Reader} {t : going.Shape} → Sees A question false
      → Goes plain g A (node t) B → Goes plain (grammar.unseen g) A (node (right t)) B
  other_goes s x = second_goes D refl solid (unseen question any refl s) x

-- SETS

abbrev closing : Rule
closing = symbol symbols.RightBracket done

members_solid : (base : Kind) → can_be_empty marks (members base) ≡ false
members_solid base = ap (λ b. b && true) (ordinal_solid base)

content_begins : (base : Kind)
    → can_begin marks (seq (members base) closing) ≡ can_begin marks (ordinal base)
content_begins base = begins_seq (members base) closing (members_solid base)
    ∙ begins_seq (ordinal base) (rep (symbol symbols.Comma (ordinal base))) (ordinal_solid base)

content_solid : (base : Kind) → can_be_empty marks (seq (members base) closing) ≡ false
content_solid base = ap (λ b. b && false) (members_solid base)

content_apart : (base : Kind) → AreApart closing (seq (members base) closing)
content_apart base text = record {
  none_meets = λ o h w. (far production text _ _ (far_ordinal bracket other_bracket
      base)).none_meets o (subst (λ ks. MeetsOne (holds text) o ks) (content_begins base) w) h;
}

members_end : (base : Kind) → can_go_on marks (members base) ≡ comma ∷ []
members_end base = ap (λ ks. (comma ∷ ks) ++ ks) (ordinal_closed base)

pub empty_set : (base : Kind) {A B C : Reader} → Takes (kind (Symbol symbols.LeftBracket)) A B
    → Sees B bracket true → Takes bracket B C → Reads (grammar.set base) (ShowsSet base []) A C
empty_set base {A} {B} x s y = record {
  shape = left nothing;
  goes = take known x (first_goes (content_apart base) refl (content_solid base)
      (λ w m. (content_apart base (text_of B.tokens.now)).none_meets
      (slice_get (tokens_of B.tokens.now) B.at) (inl (sees_it s)) m) (last_goes y));
  is = λ w. (tt, λ z. (λ h. h, λ h. h));
}

pub full_set : (base : Kind) (zs : List ℤ) {A B C D : Reader}
    → Takes (kind (Symbol symbols.LeftBracket)) A B → Sees B bracket false
    → Reads (members base) (ShowsMembers base zs) B C → Takes bracket C D
    → Reads (grammar.set base) (ShowsSet base zs) A D
full_set base zs {C = C} x s r y = record {
  shape = right (both r.shape nothing);
  goes = take known x (second_goes (content_apart base) refl (content_solid base)
      (unseen bracket closing refl s) (part refl (then known
      (subst (λ ks. disjoint apart ks (bracket ∷ []) ≡ true) (sym (members_end base)) refl) r.goes
      (last_goes y))));
  is = λ w. r.is (taken_well y w);
}

-- MEMBERS

-- a shape is shown by itself alone
only_itself : (t u : going.Shape) → Shows layer (node t) u → u ≡ t
only_itself nothing _ (s_node s_empty) = refl
only_itself (leaf v) _ (s_node (s_kept w)) = refl
only_itself (placed p t) _ (s_node (s_at q x)) = ap (placed p) (only_itself t _ x)
only_itself (both t u) _ (s_node (s_pair x y)) =
    ap₂ both (only_itself t _ x) (only_itself u _ y)
only_itself (left t) _ (s_node (s_first x)) = ap left (only_itself t _ x)
only_itself (right t) _ (s_node (s_second x)) = ap right (only_itself t _ x)
only_itself (some t) _ (s_node (s_given x)) = ap some (only_itself t _ x)

-- an ordinal that is read is one of the kind
read_fits : (k : Kind) (z : ℤ) {A B : Reader} {t : going.Shape} → Goes plain (ordinal k) A (node t) B
    → B.outcome ≡ Well → ShowsOrdinal k z t → IsOrdinalOf k z
read_fits k z {A} {B} {t} x w h =
    let tk = A.tokens.now in
    let f = reached (Finds plain tk (ordinal k) A.levels A.at (node t))
    (Fails plain tk (ordinal k) A.levels A.at) A.at B.at A.outcome B.outcome x.moves w in
    ordinal_fits (text_of tk) (tokens_of tk) _ k z f.1.tree
    (subst (λ u. ShowsOrdinal k z u) (sym (only_itself t f.0 f.2)) h)

-- the shapes of some ordinals, and one more
among_more : (base : Kind) (z : ℤ) (ts : List going.Shape) (t : going.Shape)
    → IsAmong base z (chain (ts ++ t ∷ []) nothing)
    ↔ (IsAmong base z (chain ts nothing) ⊎ ShowsOrdinal base z t)
among_more base z [] t = (
  λ h. elim h [ inl q ↦ inr q | inr q ↦ absurd q ],
  λ h. elim h [ inl q ↦ absurd q | inr q ↦ inl q ],
)
among_more base z (u ∷ ts) t = let r = among_more base z ts t in (
  λ h. elim h [
    | inl q ↦ inl (inl q)
    | inr q ↦ elim (r.0 q) [ inl p ↦ inl (inr p) | inr p ↦ inr p ]
  ],
  λ h. elim h [
    | inl q ↦ elim q [ inl p ↦ inl p | inr p ↦ inr (r.1 (inl p)) ]
    | inr q ↦ inr (r.1 (inr q))
  ],
)

module _ (base : Kind) where
  abbrev next : Rule
  next = symbol symbols.Comma (ordinal base)

  -- The members that have been read so far.
  pub record Gathered (A B : Reader) (zs : List ℤ) : Type 0 where
    run : List going.Shape
    turns : Turning known (members base) (rep next) A (Each known run) B
    are : B.outcome ≡ Well → ShowsMembers base zs (chain run nothing)

  shown_more : (ts : List going.Shape) (t : going.Shape) (z : ℤ) (zs ys : List ℤ)
      → IsOrdinalOf base z → ShowsOrdinal base z t → ys ≡ with_member z zs
      → ShowsMembers base zs (chain ts nothing)
      → ShowsMembers base ys (chain (ts ++ t ∷ []) nothing)
  shown_more ts t z zs ys o h e m =
      subst (λ l. ShowsMembers base l (chain (ts ++ t ∷ []) nothing)) (sym e) (
        with_ascends (first_ordinal base) (last_ordinal base) z zs m.0 o.0 o.1,
        λ w. let i = in_with z w zs in let a = among_more base w ts t in (
          λ p. elim (i.0 p) [
            | inl q ↦ a.1 (inr (subst (λ y. ShowsOrdinal base y t) q h))
            | inr q ↦ a.1 (inl ((m.1 w).0 q))
          ],
          λ p. elim (a.0 p) [
            | inl q ↦ i.1 (inr ((m.1 w).1 q))
            | inr q ↦ i.1 (inl (one_ordinal base z w t h q))
          ],
        ),
      )

  ends : disjoint apart (can_go_on marks (ordinal base)) (comma ∷ []) ≡ true
  ends = subst (λ ks. disjoint apart ks (comma ∷ []) ≡ true) (sym (ordinal_closed base)) refl

  pub first_member : {A B : Reader} {xs zs : List ℤ} → xs ≡ []
      → ReadsMember (ordinal base) (ShowsOrdinal base) A xs B zs → Gathered A B zs
  first_member {xs = xs} {zs} e r = record {
    run = r.shape ∷ [];
    turns = one_part known ends r.goes still_here (λ w. refl);
    are = λ w. let x = r.is w in shown_more [] r.shape x.0 [] zs
        (read_fits base x.0 r.goes w x.1) x.1 (x.2 ∙ ap (with_member x.0) e)
        (tt, λ y. (λ h. h, λ h. h));
  }

  pub next_member : {A B C D : Reader} {xs zs : List ℤ} → Sees B comma true → Gathered A B xs
      → Takes comma B C → ReadsMember (ordinal base) (ShowsOrdinal base) C xs D zs
      → Gathered A D zs
  next_member {xs = xs} {zs} s g x r = record {
    run = g.run ++ r.shape ∷ [];
    turns = more_parts known g.run comma refl ends refl s g.turns (take known x r.goes) still_here
        (λ w. refl);
    are = λ w. let y = r.is w in shown_more g.run r.shape y.0 xs zs
        (read_fits base y.0 r.goes w y.1) y.1 y.2
        (g.are (taken_well x (went_well r.goes w)));
  }

  pub fewer_left : {B C D : Reader} {xs zs : List ℤ} → Sees B comma true → Takes comma B C
      → ReadsMember (ordinal base) (ShowsOrdinal base) C xs D zs → left_of D < left_of B
  fewer_left s x r = lessens known refl s (take known x r.goes) still_here

  pub last_member : {A B : Reader} {zs : List ℤ} → Sees B comma false → Gathered A B zs
      → Reads (members base) (ShowsMembers base zs) A B
  last_member s g = record {
    shape = chain g.run nothing;
    goes = chain_goes (all_parts known (comma ∷ []) refl refl (s, tt) g.turns);
    is = g.are;
  }

-- the members ascend with one more of 32 bits
pub still_ascends : (z y : ℤ) (xs ys : List ℤ) → SFits w32 y → z ≡ y → IsAscending xs
    → ys ≡ with_member z xs → IsAscending ys
still_ascends z y xs ys f q h e =
    subst IsAscending (sym (e ∙ ap (λ i. with_member i xs) q))
    (with_ascends (negsuc 2147483647) (pos 2147483647) y xs h (low y f) (high y f))
  where
    low : (i : ℤ) → SFits w32 i → negsuc 2147483647 ≤ℤ i
    low (pos n) g = omega (arith, ints)
    low (negsuc n) g = let l : n < 2147483648 = g.sfits in omega (arith, ints, l)

    high : (i : ℤ) → SFits w32 i → i ≤ℤ pos 2147483647
    high (pos n) g = let l : n < 2147483648 = g.sfits in omega (arith, ints, l)
    high (negsuc n) g = omega (arith, ints)
