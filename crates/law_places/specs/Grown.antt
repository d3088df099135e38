-- The outlines of sentences grow from place to place.
use Rattle.std.specs.Prelude.{◌≡◌, ℕ, ◌≤◌, ◌^◌, false}
use Rattle.est_syntax.specs.declared.specification.Spec.{Spec}
use Rattle.text_reader.specs.Shown.{node}
use Rattle.rule_scope.specs.Declaring.{empty}
use Rattle.rule_declares.specs.Bodies.{outline_of}
use Rattle.text_productions.specs.Nodes.{a_specification, layer}
use Rattle.law_places.specs.PlaceOrder.{Stands}
use Rattle.law_places.specs.Growth.{Grows}

-- places are numbers of 32 bits
abbrev pub most_places : ℕ
most_places = 2 ^ 32

-- the region of a specification, which is open throughout
abbrev pub IsOutermost : ℕ → Type 0
IsOutermost region = region ≡ 0

-- the outline of a specification that stands in order before a place has all of it declared before
-- that place
abbrev pub OutlinesGrow : Type 0
OutlinesGrow = (s : Spec) (n : ℕ) → n ≤ most_places → Stands layer (node (a_specification s)) 0 n
    → Grows IsOutermost false 0 n empty (outline_of s)
