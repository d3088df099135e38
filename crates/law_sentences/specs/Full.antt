-- What is known of a declaration that breaks no rule (ISO 9074, declarations; ISO 7185, 6.2).
use Rattle.std.specs.Prelude.{◌≡◌, ◌≤◌, ◌<◌, ℕ, ℤ, pos, ◌-ℤ◌, int_lt, true, false}
use Rattle.std.specs.Prelude.{List, Option, Some}
use Rattle.est_syntax.specs.Kinds.{maxint}
use Rattle.est_syntax.specs.declared.kind.Kind.{Kind}
use Rattle.est_syntax.specs.declared.name.Used.{Used}
use Rattle.rule_scope.specs.declared.declaration.Sort.{Sort}
use Rattle.rule_scope.specs.declared.declaration.Sort.TheVariants as sort
use Rattle.rule_scope.specs.declared.declaration.Entry.{Entry}
use Rattle.rule_scope.specs.declared.declaration.Meant.TheVariants.{Seen}
use Rattle.rule_scope.specs.declared.declaration.Standing.{Standing}
use Rattle.rule_scope.specs.Outline.{Outline, entry_at, standing}
use Rattle.rule_scope.specs.Uses.{meaning}
use Rattle.rule_kinds.specs.Constants.{is_integer}

-- there is one
abbrev pub IsThere : {X : Type 0} → Option X → Type 0
IsThere {X} x = (y : X) × (x ≡ Some y)

-- an integer of the profile, whose negative is one too
abbrev pub IsOfProfile : ℤ → Type 0
IsOfProfile z = (int_lt (pos maxint) z ≡ false) × (int_lt (pos maxint) (pos 0 -ℤ z) ≡ false)

-- an ordinal of a kind, which is an integer of the profile where the kind is that of the integers
abbrev pub MayBeNegated : Kind → ℤ → Type 0
MayBeNegated k z = is_integer k ≡ true → IsOfProfile z

-- what a declaration of this sort has
abbrev pub HasAll : Sort → Entry → Type 0
HasAll sort.Constant e =
    (m : IsThere e.kind) × ((z : ℤ) × (e.ordinal ≡ Some z) × MayBeNegated m.0.kind z)
HasAll sort.TypeName e = IsThere e.kind
HasAll sort.Variable e = IsThere e.kind
HasAll sort.Function e = IsThere e.kind
HasAll sort.Point e = IsThere e.dims × IsThere e.side
HasAll sort.ModuleVariable e = IsThere e.dims × IsThere e.header
HasAll sort.Body e = IsThere e.header
HasAll _ e = Unit {0}

-- a declaration is full
abbrev pub IsFull : Entry → Type 0
IsFull e = HasAll e.declared.sort e

-- each declaration is full
abbrev pub AreFull : Outline → Type 0
AreFull o = (place : ℕ) (e : Entry) → entry_at o place ≡ Some e → IsFull e

-- each declaration that stands at a place or before it is full
abbrev pub AreFullTo : Outline → ℕ → Type 0
AreFullTo o last = (place : ℕ) (e : Entry) → place ≤ last → entry_at o place ≡ Some e → IsFull e

-- what the text of a type or a constant may name is full: a type or a constant
abbrev pub IsFullFor : Sort → Entry → Type 0
IsFullFor sort.Constant e = HasAll sort.Constant e
IsFullFor sort.TypeName e = HasAll sort.TypeName e
IsFullFor _ e = Unit {0}

-- what a name means is full, where it is a constant or a type
abbrev pub IsFullAt : Outline → Used → Type 0
IsFullAt o u = (place : ℕ) (e : Entry) → meaning o u ≡ Seen place → entry_at o place ≡ Some e
    → IsFullFor e.declared.sort e

-- each constant and each type that is in force somewhere before a place is full
abbrev pub AreFullBefore : Outline → ℕ → Type 0
AreFullBefore o b = (u : Used) → u.place < b → IsFullAt o u

-- no declaration is in force before it stands
abbrev pub AreInForceAfter : Outline → Type 0
AreInForceAfter o = (region : ℕ) (name : List ℕ) (s : Standing)
    → standing o region name ≡ Some s → s.place ≤ s.last
