-- What a table answers: an outline, and the least fault of the declarations.
use Rattle.std.specs.Prelude.{ℕ, ℤ, List, Option}
use Rattle.std.specs.Option.{option_map, option_and_then}
use Rattle.est_syntax.specs.declared.kind.Kind.{Kind}
use Rattle.est_syntax.specs.declared.rule.Fault.{Fault}
use Rattle.rule_scope.specs.declared.declaration.Declared.{Declared}
use Rattle.rule_scope.specs.declared.declaration.Entry.{Entry}
use Rattle.rule_scope.specs.declared.declaration.Measured.{Measured}
use Rattle.rule_scope.specs.Outline.{Outline, entry_at}
use Rattle.rule_declares.specs.rule_kinds.declared.value.Valued.{Valued}
use Rattle.rule_declares.specs.rule_kinds.Constants.{value_by}

-- The table of a specification.
pub record Table : Type 0 where
  pub outline : Outline
  pub fault : Option Fault

-- the sort and the body of what is declared at a place
abbrev pub declaration : Outline → ℕ → Option Declared
declaration o place = option_map (λ (e : Entry). e.declared) (entry_at o place)

-- the kind of what is declared at a place, for a function that of its result
abbrev pub kind_of : Outline → ℕ → Option Kind
kind_of o place =
    option_map (λ (m : Measured). m.kind)
    (option_and_then (λ (e : Entry). e.kind) (entry_at o place))

-- the ordinal of the constant that is declared at a place
abbrev pub constant_of : Outline → ℕ → Option ℤ
constant_of o place = option_map (λ (v : Valued). v.ordinal) (value_by (entry_at o place))

-- the kinds of the subscripts of the interaction point or module variable at a place
abbrev pub dims_at : Outline → ℕ → Option (List Kind)
dims_at o place = option_and_then (λ (e : Entry). e.dims) (entry_at o place)
