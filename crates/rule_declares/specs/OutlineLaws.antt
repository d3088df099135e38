-- What holds of the outline of every tree.
use Rattle.std.specs.Prelude.{◌≡◌, ℕ, List, Some, if◌then◌else◌}
use Rattle.est_syntax.specs.declared.specification.Spec.{Spec}
use Rattle.rule_kinds.specs.rule_scope.declared.declaration.Entry.{Entry}
use Rattle.rule_kinds.specs.rule_scope.declared.declaration.Sort.TheVariants as sort
use Rattle.rule_kinds.specs.rule_scope.declared.declaration.Standing.{Standing}
use Rattle.rule_kinds.specs.rule_scope.Outline.{Outline, names_of, entry_at}
use Rattle.rule_kinds.specs.rule_scope.Uses.{same_sort}
use Rattle.rule_kinds.specs.Dims.{dims_elements}
use Rattle.rule_declares.specs.Bodies.{outline_of}
use Rattle.rule_declares.specs.Differing.{HaveDifferentNames}

-- a name stands once in its region
abbrev pub StandOnce : Outline → Type 0
StandOnce o = (region : ℕ)
    → HaveDifferentNames (λ (n : List ℕ × Standing). n.0) (names_of o region)

abbrev pub NamesStandOnce : Type 0
NamesStandOnce = (s : Spec) → StandOnce (outline_of s)

-- the elements of a declaration: those that its subscripts give an interaction point, and else none
abbrev pub elements_of : Entry → ℕ
elements_of e = if same_sort sort.Point e.declared.sort then dims_elements e.dims else 0

-- the elements of each declaration are those
abbrev pub HaveElements : Outline → Type 0
HaveElements o = (place : ℕ) (e : Entry) → entry_at o place ≡ Some e → e.elements ≡ elements_of e

abbrev pub ElementsAreCounted : Type 0
ElementsAreCounted = (s : Spec) → HaveElements (outline_of s)
