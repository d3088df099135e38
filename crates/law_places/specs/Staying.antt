-- What stays as an outline grows: what has grown is later, and what is said in an outline is said
-- in a later one.
use Rattle.std.specs.Prelude.{◌≡◌, ℕ, suc, ◌<◌, ◌≤◌, Bool, List, map}
use Rattle.est_syntax.specs.declared.constant.Constant.{Constant}
use Rattle.est_syntax.specs.declared.type_text.TypeText.{TypeText}
use Rattle.text_reader.specs.Shown.{node, nodes}
use Rattle.rule_scope.specs.Outline.{Outline}
use Rattle.rule_kinds.specs.Constants.{constant_value}
use Rattle.rule_kinds.specs.TypeTexts.{text_type}
use Rattle.rule_kinds.specs.Dims.{dims_of}
use Rattle.text_productions.specs.Nodes.{a_constant, a_type, a_short_type, layer}
use Rattle.law_places.specs.PlaceOrder.{Stands}
use Rattle.law_places.specs.Growth.{Anywhere, Grows, IsBefore}
use Rattle.law_places.specs.Grown.{most_places}
use Rattle.law_places.specs.Later.{Later}

-- an outline is later than itself, and what is later than a later one is later
abbrev pub LaterIsInOrder : Type 0
LaterIsInOrder = (a c : ℕ) (o x p : Outline)
    → Later a c o o × (Later a c o x → Later a c x p → Later a c o p)

-- an outline all of which stands before a place is later up to what stands before that place, where
-- it has grown from there on; and then all of it stands before the place that it has grown to
abbrev pub GrownIsLater : Type 0
GrownIsLater = (unfinished : Bool) (a b : ℕ) (o p : Outline) → a ≤ b → IsBefore a o
    → Grows Anywhere unfinished a b o p → IsBefore b p × ((c : ℕ) → c < a → Later a c o p)

-- a constant has in a later outline the value that it has in this one
abbrev pub ConstantsStay : Type 0
ConstantsStay = (a c i j : ℕ) (o p : Outline) (k : Constant) → Later a c o p
    → Stands layer (node (a_constant k)) i j → j ≤ suc c
    → constant_value p k ≡ constant_value o k

-- the text of a type has the same kind
abbrev pub TextsStay : Type 0
TextsStay = (a c i j : ℕ) (o p : Outline) (t : TypeText) → Later a c o p
    → Stands layer (node (a_type t)) i j → j ≤ a → j ≤ suc c → j ≤ most_places
    → text_type p t ≡ text_type o t

-- and dimensions have the same kinds
abbrev pub DimensionsStay : Type 0
DimensionsStay = (a c i j : ℕ) (o p : Outline) (ts : List TypeText) → Later a c o p
    → Stands layer (nodes (map a_short_type ts)) i j → j ≤ suc c → j ≤ most_places
    → dims_of p ts ≡ dims_of o ts
