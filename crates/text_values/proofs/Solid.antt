-- An ordinal, a value and what was seen of one take a token.
use Rattle.std.proofs.Common.{◌≡◌, ℕ, ℤ, pos, negsuc, false, not, ◌||◌, List, []}
use Rattle.std.proofs.Common.{◌∷◌, take, refl, ap, ap₂, Option, Some, None, slice_get, bytes_eq}
use Rattle.std.specs.List.{list_any}
use Rattle.text_reader.specs.Grammar.{done, word, one_of}
use Rattle.text_reader.specs.Marks.{can_be_empty}
use Rattle.text_reader.proofs.GrammarLaws.{when_solid}
use Rattle.est_syntax.specs.declared.kind.Kind.{Kind, out-Kind}
use Rattle.est_syntax.specs.declared.kind.Kind.TheOpen as kinds
use Rattle.est_values.specs.FittingValues.{first_ordinal, last_ordinal, KindLayer}
use Rattle.est_values.specs.OrdinalTuples.{ordinals_of}
use Rattle.text_reader.specs.Tests.{named}
use Rattle.text_values.specs.TraceGrammar.{Rule, integers, characters, constant}
use Rattle.text_values.specs.TraceGrammar.{numbered_constant, constants, boolean_names}
use Rattle.text_values.specs.TraceGrammar.{bytes_of, host_by, ordinal_by, ordinal, scalar}
use Rattle.text_values.specs.TraceGrammar.{formed, a_value, value, a_seen, seen, marks}

one_of_solid : {A : Type 0} (f : A → Rule) (xs : List A)
    → ((x : A) → can_be_empty marks (f x) ≡ false) → can_be_empty marks (one_of f xs) ≡ false
one_of_solid f [] h = refl
one_of_solid f (x ∷ xs) h = ap₂ (λ a b. a || b) (h x) (one_of_solid f xs h)

numbered_solid : (names : List (List ℕ)) (n : ℕ) (o : Option (List ℕ))
    → can_be_empty marks (numbered_constant names n o) ≡ false
numbered_solid names n None = refl
numbered_solid names n (Some name) =
    when_solid marks (not (list_any (bytes_eq name) (take n names))) (word (named name) done) refl

pub constant_solid : (names : List (List ℕ)) (z : ℤ)
    → can_be_empty marks (constant names z) ≡ false
constant_solid names (pos n) = numbered_solid names n (slice_get names n)
constant_solid names (negsuc n) = refl

pub constants_solid : (names : List (List ℕ)) (k : Kind)
    → can_be_empty marks (constants names k) ≡ false
constants_solid names k = one_of_solid (constant names) (ordinals_of k) (constant_solid names)

pub integers_solid : (low high : ℤ) → can_be_empty marks (integers low high) ≡ false
integers_solid (pos a) (pos b) = refl
integers_solid (pos a) (negsuc b) = refl
integers_solid (negsuc a) (pos b) = refl
integers_solid (negsuc a) (negsuc b) = refl

characters_solid : (low high : ℤ) → can_be_empty marks (characters low high) ≡ false
characters_solid low (pos b) = refl
characters_solid low (negsuc b) = refl

ordinal_by_solid : (l : KindLayer) (k : Kind) → can_be_empty marks (ordinal_by l k) ≡ false
ordinal_by_solid kinds.Integer k = integers_solid (first_ordinal k) (last_ordinal k)
ordinal_by_solid kinds.Boolean k = constants_solid boolean_names k
ordinal_by_solid kinds.Char k = characters_solid (first_ordinal k) (last_ordinal k)
ordinal_by_solid (kinds.Enumeration declared names) k = constants_solid (bytes_of names) k
ordinal_by_solid (kinds.Part host low high) k = refl
ordinal_by_solid (kinds.SetOf base) k = refl
ordinal_by_solid (kinds.ArrayOf index of) k = refl
ordinal_by_solid (kinds.Fields fields) k = refl

-- an ordinal
pub ordinal_solid : (k : Kind) → can_be_empty marks (ordinal k) ≡ false
ordinal_solid k = ordinal_by_solid (out-Kind (host_by (out-Kind k) k)) k

scalar_solid : (g : Rule) → can_be_empty marks g ≡ false → can_be_empty marks (scalar g) ≡ false
scalar_solid g e = ap (λ a. a || false) e

pub formed_solid : (part : Kind → Rule) (l : KindLayer) (k : Kind)
    → can_be_empty marks (formed part l k) ≡ false
formed_solid part kinds.Integer k = scalar_solid (ordinal k) (ordinal_solid k)
formed_solid part kinds.Boolean k = scalar_solid (ordinal k) (ordinal_solid k)
formed_solid part kinds.Char k = scalar_solid (ordinal k) (ordinal_solid k)
formed_solid part (kinds.Enumeration declared names) k = scalar_solid (ordinal k) (ordinal_solid k)
formed_solid part (kinds.Part host low high) k = scalar_solid (ordinal k) (ordinal_solid k)
formed_solid part (kinds.SetOf base) k = refl
formed_solid part (kinds.ArrayOf index of) k = refl
formed_solid part (kinds.Fields fields) k = refl

-- a value
pub value_solid : (k : Kind) → can_be_empty marks (value k) ≡ false
value_solid k = formed_solid a_value (out-Kind k) k

-- what was seen of one
pub seen_solid : (k : Kind) → can_be_empty marks (seen k) ≡ false
seen_solid k = formed_solid a_seen (out-Kind k) k
