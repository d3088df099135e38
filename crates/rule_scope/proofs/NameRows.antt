-- Which row of a table of names is the first that passes.
use Rattle.std.proofs.Common.{◌≡◌, ◌<◌, ℕ, suc, zero, Bool, true, false, List, [], ◌∷◌, Some}
use Rattle.std.proofs.Common.{length, get_or, drop, arith, Bor, refl}
use Rattle.std.specs.Map.{lookup}
use Rattle.rule_scope.specs.declared.predeclared.PredeclaredName.{PredeclaredName}
use Rattle.rule_scope.specs.inside.Rows.{rows}

-- from a row that does not pass on
pub lookup_more : (p : List ℕ → Bool) (table : List (Bor (List ℕ) × PredeclaredName)) (i : ℕ)
    (d : Bor (List ℕ) × PredeclaredName) → i < length table
    → p (get_or table i d).0.now ≡ false
    → lookup p (drop (suc i) (rows table)) ≡ lookup p (drop i (rows table))
lookup_more p [] i d h fails = absurd (omega arith)
lookup_more p (w ∷ ws) zero d h fails = rw fails refl
lookup_more p (w ∷ ws) (suc i) d h fails = lookup_more p ws i d (omega arith) fails

-- from a row that passes on
pub lookup_here : (p : List ℕ → Bool) (table : List (Bor (List ℕ) × PredeclaredName)) (i : ℕ)
    (d : Bor (List ℕ) × PredeclaredName) → i < length table
    → p (get_or table i d).0.now ≡ true
    → lookup p (drop i (rows table)) ≡ Some (get_or table i d).1
lookup_here p [] i d h passes = absurd (omega arith)
lookup_here p (w ∷ ws) zero d h passes = rw passes refl
lookup_here p (w ∷ ws) (suc i) d h passes = lookup_here p ws i d (omega arith) passes
