-- Whether a routine names nothing that belongs to one module alone, so that nested bodies may call
-- it: variables, parameters, exports, interaction points and module variables of a body (ISO 9074,
-- scope of identifiers).
use Rattle.std.specs.Prelude.{ℕ, Bool, true, nat_lt, nat_eq, List}
use Rattle.std.specs.Prelude.{Option, Some, None, if◌then◌else◌}
use Rattle.std.specs.List.{list_all}
use Rattle.est_syntax.specs.Names.{spelled}
use Rattle.est_syntax.specs.declared.name.Used.{Used}
use Rattle.est_syntax.specs.declared.routine.Routine.{Routine, out-Routine}
use Rattle.rule_scope.specs.Outline.{Outline, entry_at, meant}
use Rattle.rule_scope.specs.declared.declaration.Entry.{Entry}
use Rattle.rule_scope.specs.declared.declaration.Meant.{Meant}
use Rattle.rule_scope.specs.declared.declaration.Meant.TheVariants.{Nothing, Predeclared}
use Rattle.rule_scope.specs.declared.declaration.Meant.TheVariants.{Unseen, Seen}
use Rattle.rule_scope.specs.declared.declaration.Sort.{Sort}
use Rattle.rule_scope.specs.declared.declaration.Sort.TheVariants as sort
use Rattle.rule_uses.specs.Routines.{routine_names}

-- The routine at a place may name a variable, a module variable or a point that is declared after
-- its own name, thus within it, a routine that is closed or is itself, and whatever else there is.
abbrev pub is_free_sort : Sort → Bool → ℕ → ℕ → Bool
is_free_sort sort.Variable closed routine place = nat_lt routine place
is_free_sort sort.ModuleVariable closed routine place = nat_lt routine place
is_free_sort sort.Point closed routine place = nat_lt routine place
is_free_sort sort.Procedure closed routine place = if nat_eq place routine then true else closed
is_free_sort sort.Function closed routine place = if nat_eq place routine then true else closed
is_free_sort _ closed routine place = true

-- It may name what this entry declares at a place, and what no entry does.
abbrev pub is_free_entry : Option Entry → ℕ → ℕ → Bool
is_free_entry None routine place = true
is_free_entry (Some e) routine place = is_free_sort e.declared.sort e.closed routine place

-- It may name what a name means.
abbrev pub is_free_meant : Outline → ℕ → Meant → Bool
is_free_meant o routine Nothing = true
is_free_meant o routine (Predeclared n) = true
is_free_meant o routine (Unseen p) = is_free_entry (entry_at o p) routine p
is_free_meant o routine (Seen p) = is_free_entry (entry_at o p) routine p

-- It may name what a name means at its place.
abbrev pub is_free : Outline → ℕ → Used → Bool
is_free o routine u = is_free_meant o routine (meant o (spelled u) u.place)

-- It may name what each of these names means.
abbrev pub all_free : Outline → ℕ → List Used → Bool
all_free o routine us = list_all (is_free o routine) us

-- A routine is closed where it may name whatever its text looks up.
abbrev pub is_closed : Outline → Routine → Bool
is_closed o r = all_free o (out-Routine r).name.place (routine_names r)
