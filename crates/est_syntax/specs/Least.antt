-- The order of faults, and the least of a set of them.
use Rattle.std.specs.Prelude.{◌≡◌, ℕ, Bool, true, false, nat_lt, List, []}
use Rattle.std.specs.Prelude.{◌∷◌, Option, Some, None, if◌then◌else◌, ◌⊎◌}
use Rattle.est_syntax.specs.declared.rule.Fault.{Fault}
use Rattle.est_syntax.specs.declared.rule.Rule.{Rule}
use Rattle.est_syntax.specs.declared.rule.Rule.TheVariants as rule

-- the number of a rule
abbrev pub number : Rule → ℕ
number rule.UnknownName = 1
number rule.DeclaredTwice = 2
number rule.NotSeenHere = 3
number rule.WrongSort = 4
number rule.NumberTooLarge = 5
number rule.WrongBounds = 6
number rule.TooLarge = 7
number rule.WrongKind = 8
number rule.WrongNumber = 9
number rule.NotWritable = 10
number rule.NotInFunction = 11
number rule.WrongDirection = 12
number rule.DelayNotAlone = 13
number rule.NoFirstState = 14
number rule.WrongAttribute = 15
number rule.WrongBody = 16
number rule.WrongLink = 17
number rule.CaseTwice = 18

-- whether one fault comes before another: by place, and then by the number of the rule
abbrev pub is_before : Fault → Fault → Bool
is_before f g = if nat_lt f.place g.place then true else
    (if nat_lt g.place f.place then false else nat_lt (number f.rule) (number g.rule))

-- x is one of a list
abbrev pub IsIn : {X : Type 0} → X → List X → Type 0
IsIn x [] = ⊥
IsIn x (y ∷ ys) = (y ≡ x) ⊎ IsIn x ys

-- a set of faults is empty, or this is the least of it
abbrev pub IsLeast : (Fault → Type 0) → Option Fault → Type 0
IsLeast S None = (f : Fault) → S f → ⊥
IsLeast S (Some f) = S f × ((g : Fault) → S g → is_before g f ≡ false)
