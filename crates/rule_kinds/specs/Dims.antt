-- The subscripts of interaction points and module variables (ISO 9074, interaction points and
-- module variables).
use Rattle.std.specs.Prelude.{ℕ, nat_lt, List, [], ◌∷◌, ◌++◌, Option, Some, None, if◌then◌else◌}
use Rattle.est_syntax.specs.Faults.{broken}
use Rattle.est_syntax.specs.Kinds.{is_ordinal}
use Rattle.est_syntax.specs.declared.kind.Kind.{Kind}
use Rattle.est_syntax.specs.declared.type_text.TypeText.{TypeText}
use Rattle.est_syntax.specs.declared.rule.Fault.{Fault}
use Rattle.est_syntax.specs.declared.rule.Rule.TheVariants.{TooLarge, WrongKind}
use Rattle.rule_scope.specs.declared.declaration.Measured.{Measured}
use Rattle.rule_scope.specs.Outline.{Outline}
use Rattle.rule_kinds.specs.TypeTexts.{text_type, text_faults, text_place}
use Rattle.rule_kinds.specs.TypeTexts.{count, multiplied, most_elements}

-- the kinds of subscripts, and that of one more, which is ordinal
abbrev pub with_dim : Option (List Kind) → Option Measured → Option (List Kind)
with_dim (Some ks) (Some m) = if is_ordinal m.kind then Some (ks ++ m.kind ∷ []) else None
with_dim _ _ = None

-- the kinds of subscripts after these
abbrev pub dims_after : Outline → Option (List Kind) → List TypeText → Option (List Kind)
dims_after o ks [] = ks
dims_after o ks (t ∷ ts) = dims_after o (with_dim ks (text_type o t)) ts

-- the kinds of the subscripts of what is declared with these dims
abbrev pub dims_of : Outline → List TypeText → Option (List Kind)
dims_of o ts = dims_after o (Some []) ts

-- how many elements an array with these subscripts has
abbrev pub elements : List Kind → ℕ
elements [] = 1
elements (k ∷ ks) = multiplied (count k) (elements ks)

-- how many elements what is declared with these dims has
abbrev pub dims_elements : Option (List Kind) → ℕ
dims_elements None = 0
dims_elements (Some ks) = elements ks

-- a dim that begins at a place and is not ordinal
abbrev pub ordinal_faults : Option Measured → ℕ → List Fault
ordinal_faults None place = []
ordinal_faults (Some m) place = if is_ordinal m.kind then [] else broken place WrongKind

-- what one of the dims breaks
abbrev pub dim_faults : Outline → TypeText → List Fault
dim_faults o t = text_faults o t ++ ordinal_faults (text_type o t) (text_place t)

-- what each of the dims breaks
abbrev pub each_dim_faults : Outline → List TypeText → List Fault
each_dim_faults o [] = []
each_dim_faults o (t ∷ ts) = dim_faults o t ++ each_dim_faults o ts

-- an array of too many elements
abbrev pub elements_faults : Option (List Kind) → ℕ → List Fault
elements_faults None place = []
elements_faults (Some ks) place =
    if nat_lt most_elements (elements ks) then broken place TooLarge else []

-- what the dims break that stand at a place
abbrev pub dims_faults : Outline → List TypeText → ℕ → List Fault
dims_faults o ts place = each_dim_faults o ts ++ elements_faults (dims_of o ts) place
