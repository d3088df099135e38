-- What stands from a number on among the names of a region.
use Rattle.std.proofs.Common.{◌≡◌, ℕ, zero, suc, List, [], ◌∷◌, drop, slice_get, Some, ap}
use Rattle.rule_declares.specs.rule_kinds.TypeTexts.{added}
use Rattle.rule_scope.specs.declared.declaration.Standing.{Standing}
use Rattle.rule_scope.specs.Outline.{Outline, Region, entry_at}
use Rattle.rule_ports.specs.Counts.{declared_elements, names_elements}

pub from_here : {X : Type 0} (xs : List X) (i : ℕ) (x : X) → slice_get xs i ≡ Some x
    → drop i xs ≡ x ∷ drop (suc i) xs
from_here [] i x e = cc
from_here (y ∷ ys) zero x e = cc
from_here (y ∷ ys) (suc i) x e = from_here ys i x e

pub elements_at : (o : Outline) (names : Region) (i : ℕ) (e : List ℕ × Standing)
    → slice_get names i ≡ Some e
    → names_elements o (drop i names) ≡ added (declared_elements (entry_at o e.1.place))
    (names_elements o (drop (suc i) names))
elements_at o names i e h = ap (names_elements o) (from_here names i e h)
