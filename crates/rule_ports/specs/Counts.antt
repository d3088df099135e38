-- How many bodies, transitions and ports a specification has (ISO 9074, module-body-definition,
-- transition and interaction-point).
use Rattle.std.specs.Prelude.{ℕ, suc, ◌-◌, ◌^◌, min, List, [], ◌∷◌, Option, Some, None}
use Rattle.est_syntax.specs.declared.body.Part.{Part, Row_of-Part, end_of-Part, more_of-Part}
use Rattle.est_syntax.specs.declared.body.Part.TheVariants as part
use Rattle.est_syntax.specs.declared.body.Body.{Body', Row_of-Group, end_of-Group, more_of-Group}
use Rattle.est_syntax.specs.declared.specification.Spec.{Spec}
use Rattle.est_syntax.specs.declared.transition.Group.{Group', Row_of-Transition}
use Rattle.est_syntax.specs.declared.transition.Group.{end_of-Transition, more_of-Transition}
use Rattle.rule_scope.specs.declared.declaration.Entry.{Entry}
use Rattle.rule_scope.specs.Outline.{Outline, Region, names_of, entry_at}
use Rattle.rule_declares.specs.rule_kinds.TypeTexts.{added}
use Rattle.rule_declares.specs.Bodies.{outline_of}
use Rattle.rule_ports.specs.declared.counts.Counts.{Counts}
use Rattle.rule_declares.specs.LookUps.{started_header}

-- the bodies that parts declare, those within bodies too
abbrev mutual
  pub part_bodies : Part → ℕ
  part_bodies (part.Body (Body' name header a parts f b groups)) = added 1 (row_bodies parts)
  part_bodies _ = 0

  pub row_bodies : {n : _} → Row_of-Part n → ℕ
  row_bodies end_of-Part = 0
  row_bodies (more_of-Part p rest) = added (part_bodies p) (row_bodies rest)

-- the same of parts in a list
abbrev pub bodies : List Part → ℕ
bodies [] = 0
bodies (p ∷ ps) = added (part_bodies p) (bodies ps)

-- the transitions of all bodies that parts declare
abbrev mutual
  pub part_transitions : Part → ℕ
  part_transitions (part.Body (Body' name header a parts f b groups)) =
      added (row_groups groups) (row_parts parts)
  part_transitions _ = 0

  pub row_parts : {n : _} → Row_of-Part n → ℕ
  row_parts end_of-Part = 0
  row_parts (more_of-Part p rest) = added (part_transitions p) (row_parts rest)

  pub row_groups : {n : _} → Row_of-Group n → ℕ
  row_groups end_of-Group = 0
  row_groups (more_of-Group (Group' a transitions) rest) =
      added (row_transitions transitions) (row_groups rest)

  pub row_transitions : {n : _} → Row_of-Transition n → ℕ
  row_transitions end_of-Transition = 0
  row_transitions (more_of-Transition cs name a parts statements place rest) =
      suc (row_transitions rest)

-- the same of parts in a list
abbrev pub transitions : List Part → ℕ
transitions [] = 0
transitions (p ∷ ps) = added (part_transitions p) (transitions ps)

-- the elements of the interaction point that is declared at a place, if one is
abbrev pub declared_elements : Option Entry → ℕ
declared_elements None = 0
declared_elements (Some e) = e.elements

-- those of the interaction points among the names of a region
abbrev pub names_elements : Outline → Region → ℕ
names_elements o [] = 0
names_elements o ((name, s) ∷ names) =
    added (declared_elements (entry_at o s.place)) (names_elements o names)

-- the elements of the interaction points of a header
abbrev pub header_elements : Outline → Option ℕ → ℕ
header_elements o None = 0
header_elements o (Some header) = names_elements o (names_of o header)

-- These numbers, as far as 32 bits go, which no text of a specification comes near.
abbrev pub counted : ℕ → ℕ
counted n = min n (2 ^ 32 - 1)

-- the numbers of a specification, whose outline this is
abbrev pub counts_by : Outline → Spec → Counts
counts_by o s = record {
  bodies = counted (bodies s.parts);
  transitions = counted (transitions s.parts);
  ports = counted (header_elements o (started_header o s.first));
}

-- the numbers of a specification
unfoldable pub counts_of : Spec → Counts
counts_of s = counts_by (outline_of s) s
