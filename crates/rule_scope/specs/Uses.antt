-- The uses of names (ISO 9074, scope of identifiers; ISO 7185, 6.2.2).
use Rattle.std.specs.Prelude.{ℕ, Bool, false, List, [], ◌++◌, ◌∷◌}
use Rattle.std.specs.Prelude.{Option, Some, None, is_none, if◌then◌else◌}
use Rattle.std.specs.Option.{option_map_or}
use Rattle.est_syntax.specs.Names.{spelled}
use Rattle.est_syntax.specs.Faults.{broken, broken_if}
use Rattle.est_syntax.specs.declared.name.Used.{Used}
use Rattle.est_syntax.specs.declared.rule.Fault.{Fault}
use Rattle.est_syntax.specs.declared.rule.Rule.TheVariants.{UnknownName, DeclaredTwice}
use Rattle.est_syntax.specs.declared.rule.Rule.TheVariants.{NotSeenHere, WrongSort}
use Rattle.rule_scope.specs.declared.declaration.Sort.{Sort}
use Rattle.rule_scope.specs.declared.declaration.Entry.{Entry}
use Rattle.rule_scope.specs.declared.declaration.Meant.{Meant}
use Rattle.rule_scope.specs.declared.declaration.Meant.TheVariants.{Nothing, Predeclared}
use Rattle.rule_scope.specs.declared.declaration.Meant.TheVariants.{Unseen, Seen}
use Rattle.rule_scope.specs.declared.predeclared.PredeclaredName.{PredeclaredName}
use Rattle.rule_scope.specs.contracts.declaration.SortPartialEq.TheImpl.{ghosts}
use Rattle.rule_scope.specs.Outline.{Outline, entry_at, member_at, meant}

-- whether two sorts are the same: the comparison that the type derives
abbrev pub same_sort : Sort → Sort → Bool
same_sort a b = ghosts.eq a b

-- whether a declaration is of this sort
abbrev pub is_sort : Sort → Option Entry → Bool
is_sort s e = option_map_or (λ (x : Entry). same_sort s x.declared.sort) e false

-- what a name means at its place
abbrev pub meaning : Outline → Used → Meant
meaning o u = meant o (spelled u) u.place

-- What the use of a name of this meaning at a place breaks: it is unknown or not seen, or it breaks
-- what is given for this predeclared name, or for the declaration at this place.
abbrev pub meaning_faults :
    Meant → ℕ → (PredeclaredName → List Fault) → (ℕ → List Fault) → List Fault
meaning_faults Nothing place known declared = broken place UnknownName
meaning_faults (Predeclared n) place known declared = known n
meaning_faults (Unseen p) place known declared = broken place NotSeenHere
meaning_faults (Seen p) place known declared = declared p

-- a name at a place that means the declaration at another, where a sort is wanted
abbrev pub other_sort_faults : Outline → Sort → ℕ → ℕ → List Fault
other_sort_faults o s place p = if is_sort s (entry_at o p) then [] else broken place WrongSort

-- A name of this meaning where a sort is wanted. What is predeclared is of another sort.
abbrev pub used_as : Outline → Sort → ℕ → Meant → List Fault
used_as o s place m = meaning_faults m place (λ (n : PredeclaredName). broken place WrongSort)
    (other_sort_faults o s place)

-- the use of a name where a sort is wanted
abbrev pub use_faults : Outline → Sort → Used → List Fault
use_faults o s u = used_as o s u.place (meaning o u)

-- the uses of these names where a sort is wanted
abbrev pub uses_faults : Outline → Sort → List Used → List Fault
uses_faults o s [] = []
uses_faults o s (u ∷ us) = use_faults o s u ++ uses_faults o s us

-- the place of the declaration that a meaning gives, where it is seen and of this sort
abbrev pub meant_as : Outline → Sort → Meant → Option ℕ
meant_as o s (Seen p) = if is_sort s (entry_at o p) then Some p else None
meant_as o s _ = None

-- the place of the declaration that a name means, where it is seen and of this sort
abbrev pub declaration_of : Outline → Sort → Used → Option ℕ
declaration_of o s u = meant_as o s (meaning o u)

-- a name that is declared at a place where its region has it already, which therefore declares
-- nothing
abbrev pub twice_faults : Outline → Used → List Fault
twice_faults o u = broken_if (is_none (entry_at o u.place)) u.place DeclaredTwice

-- the names among these that are declared so
abbrev pub twices_faults : Outline → List Used → List Fault
twices_faults o [] = []
twices_faults o (u ∷ us) = twice_faults o u ++ twices_faults o us

-- a name of a channel or a record that stands there already
abbrev pub again_faults : Outline → Used → List Fault
again_faults o u = broken_if (is_none (member_at o u.place)) u.place DeclaredTwice

-- the names among these that stand there already
abbrev pub agains_faults : Outline → List Used → List Fault
agains_faults o [] = []
agains_faults o (u ∷ us) = again_faults o u ++ agains_faults o us
