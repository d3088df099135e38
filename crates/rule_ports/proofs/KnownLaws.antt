-- Sides that are known.
use Rattle.std.proofs.Common.{◌≡◌, ℕ, nat_eq, refl, List, [], ◌∷◌, ◌++◌, Bool}
use Rattle.std.proofs.Common.{true, false, Some, if◌then◌else◌, subst, sym}
use Rattle.std.specs.Map.{lookup}
use Rattle.std.proofs.lemmas.Bool.{eqb-true}
use Rattle.rule_scope.specs.Outline.{Outline}
use Rattle.rule_ports.specs.inside.KnownSides.{IsKnown, AreKnown}
use Rattle.rule_ports.specs.declared.known.Sides.{Sides}

-- those of a channel that is there
known_by : (o : Outline) (channel c : ℕ) (s sides : Sides) (rest : List (ℕ × Sides)) (b : Bool)
    → nat_eq channel c ≡ b → IsKnown o c s → (lookup (nat_eq channel) rest ≡ Some sides
    → IsKnown o channel sides)
    → (if b then Some s else lookup (nat_eq channel) rest) ≡ Some sides → IsKnown o channel sides
known_by o channel c s sides rest true t h more e =
    let same : s ≡ sides = cc in
    subst (λ n. IsKnown o n sides) (sym (eqb-true channel c t)) (subst (IsKnown o c) same h)
known_by o channel c s sides rest false t h more e = more e

pub known_at : (o : Outline) (known : List (ℕ × Sides)) (channel : ℕ) (sides : Sides)
    → AreKnown o known → lookup (nat_eq channel) known ≡ Some sides → IsKnown o channel sides
known_at o [] channel sides h e = cc
known_at o ((c, s) ∷ rest) channel sides h e = known_by o channel c s sides rest (nat_eq channel c)
    refl h.0 (known_at o rest channel sides h.1) e

-- and one more
pub known_with : (o : Outline) (known : List (ℕ × Sides)) (channel : ℕ) (sides : Sides)
    → AreKnown o known → IsKnown o channel sides → AreKnown o (known ++ (channel, sides) ∷ [])
known_with o [] channel sides h k = (k, tt)
known_with o ((c, s) ∷ rest) channel sides h k = (h.0, known_with o rest channel sides h.1 k)
