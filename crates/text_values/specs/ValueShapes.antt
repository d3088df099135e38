-- Which shapes the values of a trace have.
use Rattle.std.specs.Prelude.{◌≡◌, ℕ, ℤ, pos, neg_ℤ, ◌↔◌, ◌⊎◌, List, [], ◌∷◌, Some, IsTrue}
use Rattle.std.specs.Prelude.{replicate, slice_get}
use Rattle.text_reader.specs.Grammar.{nothing, leaf, both, left, right, pick}
use Rattle.est_syntax.specs.Least.{IsIn}
use Rattle.est_syntax.specs.declared.kind.Kind.{Kind, out-Kind}
use Rattle.est_syntax.specs.declared.kind.Kind.TheOpen as kinds
use Rattle.est_syntax.specs.declared.kind.FieldKind.{FieldKind}
use Rattle.est_values.specs.declared.value.Value.{Value, out-Value}
use Rattle.est_values.specs.declared.value.Value.TheOpen as values
use Rattle.est_values.specs.FittingValues.{ordinal_count, KindLayer, is_scalar, AreMembersOf}
use Rattle.est_values.specs.OrdinalTuples.{ordinals_of}
use Rattle.text_reader.specs.Tests.{value, code}
use Rattle.text_reader.specs.Going.{Shape}
use Rattle.text_values.specs.TraceGrammar.{host_by, field_kinds}

-- the items of two lists, pair by pair, have shapes one after the other (`listed`)
abbrev pub AreShown : {A B : Type 0} → (A → B → Shape → Type 0) → List A → List B → Shape → Type 0
AreShown R [] [] nothing = Unit {0}
AreShown R (x ∷ xs) (y ∷ ys) (both t u) = R x y t × AreShown R xs ys u
AreShown R _ _ _ = ⊥

-- the same in brackets (`enclosed`)
abbrev pub AreEnclosed : {A B : Type 0} → (A → B → Shape → Type 0) → List A → List B → Shape
    → Type 0
AreEnclosed R xs ys (both t nothing) = AreShown R xs ys t
AreEnclosed R xs ys _ = ⊥

-- the same where there are items, else nothing (`bracketed`)
abbrev pub AreBracketed : {A B : Type 0} → (A → B → Shape → Type 0) → List A → List B → Shape
    → Type 0
AreBracketed R [] [] nothing = Unit {0}
AreBracketed R (x ∷ xs) ys t = AreEnclosed R (x ∷ xs) ys t
AreBracketed R _ _ _ = ⊥

-- an integer (`integers`)
abbrev pub ShowsInteger : ℤ → Shape → Type 0
ShowsInteger z (left (leaf (value n))) = z ≡ pos n
ShowsInteger z (right (leaf (value n))) = z ≡ neg_ℤ (pos n)
ShowsInteger z _ = ⊥

-- a character (`characters`)
abbrev pub ShowsCharacter : ℤ → Shape → Type 0
ShowsCharacter z (left (leaf (code c))) = z ≡ pos c
ShowsCharacter z (right (both (leaf (value n)) nothing)) = z ≡ pos n
ShowsCharacter z _ = ⊥

-- a constant (`constants`): the alternatives are the ordinals of the kind in order
abbrev pub ShowsConstant : Kind → ℤ → Shape → Type 0
ShowsConstant k z t = (i : ℕ) × (slice_get (ordinals_of k) i ≡ Some z) × (t ≡ pick i nothing)

-- an ordinal of a kind whose host is this (`ordinal_by`)
abbrev pub ShowsOrdinalBy : KindLayer → Kind → ℤ → Shape → Type 0
ShowsOrdinalBy kinds.Integer k z t = ShowsInteger z t
ShowsOrdinalBy kinds.Boolean k z t = ShowsConstant k z t
ShowsOrdinalBy kinds.Char k z t = ShowsCharacter z t
ShowsOrdinalBy (kinds.Enumeration declared names) k z t = ShowsConstant k z t
ShowsOrdinalBy _ k z t = ⊥

abbrev pub ShowsOrdinal : Kind → ℤ → Shape → Type 0
ShowsOrdinal k z t = ShowsOrdinalBy (out-Kind (host_by (out-Kind k) k)) k z t

-- an ordinal is one of those that stand in a list (`members`)
abbrev pub IsAmong : Kind → ℤ → Shape → Type 0
IsAmong base z (both t u) = ShowsOrdinal base z t ⊎ IsAmong base z u
IsAmong base z _ = ⊥

-- these are the members of a set whose list of members has this shape (`members`)
abbrev pub ShowsMembers : Kind → List ℤ → Shape → Type 0
ShowsMembers base zs t = AreMembersOf base zs × ((z : ℤ) → IsIn z zs ↔ IsAmong base z t)

-- an ordinal is one of those that stand in the text of a set (`set`)
abbrev pub StandsIn : Kind → ℤ → Shape → Type 0
StandsIn base z (right (both t nothing)) = IsAmong base z t
StandsIn base z _ = ⊥

-- these are the members of a set that has this shape
abbrev pub ShowsSet : Kind → List ℤ → Shape → Type 0
ShowsSet base zs t = AreMembersOf base zs × ((z : ℤ) → IsIn z zs ↔ StandsIn base z t)

mutual
  -- A value of a kind has this shape.
  pub data ShowsValue : Kind → Value → Shape → Type 0 where
    undefined : {k : Kind} {v : Value} → IsTrue (is_scalar k) → out-Value v ≡ values.Undefined
        → ShowsValue k v (right nothing)
    ordinal : {k : Kind} {v : Value} {t : Shape} (z : ℤ) → out-Value v ≡ values.Ordinal z
        → ShowsOrdinal k z t → ShowsValue k v (left t)
    set : {k : Kind} {v : Value} {t : Shape} (base : Kind) (zs : List ℤ)
        → out-Kind k ≡ kinds.SetOf base → out-Value v ≡ values.Set zs → ShowsSet base zs t
        → ShowsValue k v (left t)
    array : {k : Kind} {v : Value} {t : Shape} (index of : Kind) (parts : List Value)
        → out-Kind k ≡ kinds.ArrayOf index of → out-Value v ≡ values.Group parts
        → ShowsValues (replicate (ordinal_count index) of) parts t → ShowsValue k v (both t nothing)
    fields : {k : Kind} {v : Value} {t : Shape} (fields : List FieldKind) (parts : List Value)
        → out-Kind k ≡ kinds.Fields fields → out-Value v ≡ values.Group parts
        → ShowsValues (field_kinds fields) parts t → ShowsValue k v (both t nothing)

  -- Values of these kinds have shapes one after the other: `AreShown ShowsValue`.
  pub data ShowsValues : List Kind → List Value → Shape → Type 0 where
    no_values : ShowsValues [] [] nothing
    one_more : {k : Kind} {ks : List Kind} {v : Value} {vs : List Value} {t u : Shape}
        → ShowsValue k v t → ShowsValues ks vs u → ShowsValues (k ∷ ks) (v ∷ vs) (both t u)
