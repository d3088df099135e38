-- Lists of faults that are empty.
use Rattle.std.specs.Prelude.{if◌then◌else◌}
use Rattle.std.proofs.Common.{◌≡◌, refl, ℕ, Bool, true, false, List, [], ◌∷◌, ◌++◌}
use Rattle.est_syntax.specs.Faults.{broken, broken_if}
use Rattle.est_syntax.specs.declared.rule.Fault.{Fault}
use Rattle.est_syntax.specs.declared.rule.Rule.{Rule}

-- where two parts break nothing together, neither does
pub parted : (xs ys : List Fault) → xs ++ ys ≡ [] → (xs ≡ []) × (ys ≡ [])
parted [] ys h = (refl, h)
parted (x ∷ xs) ys h = cc

-- a condition that is met, since it is not broken
pub unbroken : (b : Bool) (place : ℕ) (r : Rule) → (if b then [] else broken place r) ≡ []
    → b ≡ true
unbroken true place r h = refl
unbroken false place r h = cc

pub unbroken_if : (b : Bool) (place : ℕ) (r : Rule) → broken_if b place r ≡ [] → b ≡ false
unbroken_if true place r h = cc
unbroken_if false place r h = refl
