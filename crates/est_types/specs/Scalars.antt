-- How many scalars the variables of a body, a routine or a block have (ISO 7185, 6.4.1).
use Rattle.std.specs.Prelude.{ℕ, nat_lt, List, [], ◌∷◌, Option, Some, None}
use Rattle.std.specs.Option.{option_map_or}
use Rattle.est_syntax.specs.Faults.{broken_if}
use Rattle.est_syntax.specs.declared.body.Part.{Part, Row_of-Part, end_of-Part, more_of-Part}
use Rattle.est_syntax.specs.declared.body.Part.TheVariants as part
use Rattle.est_syntax.specs.declared.name.Used.{Used}
use Rattle.est_syntax.specs.declared.rule.Fault.{Fault}
use Rattle.est_syntax.specs.declared.rule.Rule.TheVariants.{TooLarge}
use Rattle.est_syntax.specs.declared.type_text.VarDef.{VarDef}
use Rattle.rule_scope.specs.declared.declaration.Entry.{Entry}
use Rattle.rule_scope.specs.declared.declaration.Measured.{Measured}
use Rattle.rule_scope.specs.Outline.{Outline, entry_at}
use Rattle.rule_declares.specs.rule_kinds.TypeTexts.{added, most_scalars}

-- the scalars of the variable that this is, where it has a kind
abbrev pub scalars_by : Option Entry → ℕ
scalars_by None = 0
scalars_by (Some e) = option_map_or (λ (m : Measured). m.scalars) e.kind 0

-- those of variables, and of those before them
abbrev pub names_scalars : Outline → ℕ → List Used → ℕ
names_scalars o sum [] = sum
names_scalars o sum (u ∷ us) = names_scalars o (added sum (scalars_by (entry_at o u.place))) us

-- those of sections of variables, and of those before them
abbrev pub vars_scalars : Outline → ℕ → List VarDef → ℕ
vars_scalars o sum [] = sum
vars_scalars o sum (v ∷ vs) = vars_scalars o (names_scalars o sum v.names) vs

-- the scalars of the `var` sections among parts
abbrev pub row_scalars : Outline → ℕ → {n : _} → Row_of-Part n → ℕ
row_scalars o sum end_of-Part = sum
row_scalars o sum (more_of-Part (part.Vars vs) rest) = row_scalars o (vars_scalars o sum vs) rest
row_scalars o sum (more_of-Part _ rest) = row_scalars o sum rest

-- the same of parts in a list
abbrev pub parts_scalars : Outline → ℕ → List Part → ℕ
parts_scalars o sum [] = sum
parts_scalars o sum (part.Vars vs ∷ rest) = parts_scalars o (vars_scalars o sum vs) rest
parts_scalars o sum (_ ∷ rest) = parts_scalars o sum rest

-- variables that have too many
abbrev pub scalars_faults : ℕ → ℕ → List Fault
scalars_faults scalars place = broken_if (nat_lt most_scalars scalars) place TooLarge
