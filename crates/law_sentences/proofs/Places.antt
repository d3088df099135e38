-- What stands in order between two places, by its parts.
use Rattle.std.proofs.Common.{ℕ, ◌≤◌, ◌<◌, List, ◌∷◌}
use Rattle.est_syntax.specs.declared.name.Used.{Used}
use Rattle.text_reader.specs.Shown.{kept, at, pair, first, second, given, node, nowhere, nodes}
use Rattle.text_reader.specs.Going.{used}
use Rattle.text_reader.specs.Tests.{Kept}
use Rattle.law_places.specs.PlaceOrder.{Stands, o_kept, o_at, o_pair, o_first, o_second}
use Rattle.law_places.specs.PlaceOrder.{o_given, o_node, o_more}
use Rattle.law_places.proofs.Standing.{goes_on}
use Rattle.text_productions.specs.Nodes.{Node, View, layer}

-- the later place is not before the earlier one
pub ascends : {v : View} {a b : ℕ} → Stands layer v a b → a ≤ b
ascends s = goes_on layer s

-- each part stands there too
pub in_at : {p : ℕ} {w : View} {a b : ℕ} → Stands layer (at p w) a b → (a ≤ p) × Stands layer w p b
in_at (o_at h s) = (h, s)

pub in_pair : {w x : View} {a b : ℕ} → Stands layer (pair w x) a b
    → (k : ℕ) × Stands layer w a k × Stands layer x k b
in_pair (o_pair {k = k} s t) = (k, s, t)

pub in_first : {w : View} {a b : ℕ} → Stands layer (first w) a b → Stands layer w a b
in_first (o_first s) = s

pub in_second : {w : View} {a b : ℕ} → Stands layer (second w) a b → Stands layer w a b
in_second (o_second s) = s

pub in_given : {w : View} {a b : ℕ} → Stands layer (given w) a b → Stands layer w a b
in_given (o_given s) = s

pub in_node : {n : Node} {a b : ℕ} → Stands layer (node n) a b → Stands layer (layer n) a b
in_node (o_node s) = s

pub in_more : {n : Node} {ns : List Node} {a b : ℕ} → Stands layer (nodes (n ∷ ns)) a b
    → (k : ℕ) × Stands layer (node n) a k × Stands layer (nodes ns) k b
in_more (o_more {k = k} s t) = (k, s, t)

pub in_nowhere : {a b : ℕ} → Stands layer nowhere a b → ⊥
in_nowhere s = elim s [ ]

pub in_kept : {v : Kept} {a b : ℕ} → Stands layer (kept v) a b → a < b
in_kept (o_kept h) = h

-- a name stands between the places
pub in_used : (u : Used) (a b : ℕ) → Stands layer (used u) a b → u.place < b
in_used u a b s = in_kept (in_at s).1

pub from_used : (u : Used) (a b : ℕ) → Stands layer (used u) a b → a ≤ u.place
from_used u a b s = (in_at s).0
