-- The clauses of a sentence that breaks no rule break none, lack nothing, and declare what its
-- outline says.
use Rattle.std.specs.Prelude.{flat_map}
use Rattle.std.proofs.Common.{◌≡◌, List, [], ◌∷◌}
use Rattle.std.specs.List.{AllByRecursion}
use Rattle.est_syntax.specs.declared.body.Body.{Body', Row_of-Group, end_of-Group, more_of-Group}
use Rattle.est_syntax.specs.declared.body.Part.{Part, Row_of-Part, end_of-Part, more_of-Part}
use Rattle.est_syntax.specs.declared.body.Part.TheVariants as part
use Rattle.est_syntax.specs.declared.transition.Clause.{Clause}
use Rattle.est_syntax.specs.declared.transition.Group.{Group', Row_of-Transition}
use Rattle.est_syntax.specs.declared.transition.Group.{end_of-Transition, more_of-Transition}
use Rattle.rule_scope.specs.Outline.{Outline}
use Rattle.rule_declares.specs.declared.context.Given.{Given}
use Rattle.est_check.specs.BlockFaults.{part_faults, row_faults, first_faults}
use Rattle.est_check.specs.BlockFaults.{row_groups_faults, row_transitions_faults}
use Rattle.est_check.specs.Clauses.{clause_faults}
use Rattle.rule_ports.specs.GivenClauses.{with_clauses, delay_faults}
use Rattle.law_places.specs.Said.{Each, ClauseSaid, TransitionsSaid, GroupsSaid, PartSaid}
use Rattle.law_places.specs.Said.{PartsSaid}
use Rattle.law_sentences.specs.WholeBodies.{ClauseLacksNothing, ClausesLackNothing}
use Rattle.law_sentences.specs.WholeBodies.{TransitionsLackNothing, GroupsLackNothing}
use Rattle.law_sentences.specs.WholeBodies.{PartLacksNothing, RowOfPartsLacksNothing}
use Rattle.law_sentences.specs.WholeBodies.{PartsLackNothing}
use Rattle.law_sentences.proofs.NoFaults.{parted}
use Rattle.law_sentences.proofs.NotBroken.{three}
use Rattle.law_numbers.proofs.EachBody.{PartBodies, RowBodies, AllBodies}
use Rattle.law_numbers.proofs.EachClause.{TransitionsHave, GroupsHave, BodyHas}

module _ (o : Outline) where
  -- a clause breaks no rule, lacks nothing, and declares what the outline says
  pub record IsFineClause (c : Clause) : Type 0 where
    pub unbroken : clause_faults o c ≡ []
    pub whole : ClauseLacksNothing o c
    pub said : ClauseSaid o c

  clauses_fine : (cs : List Clause) → flat_map (clause_faults o) cs ≡ [] → ClausesLackNothing o cs
      → Each (ClauseSaid o) cs → AllByRecursion IsFineClause cs
  clauses_fine [] h k s = tt
  clauses_fine (c ∷ cs) h k s =
      let own = parted (clause_faults o c) (flat_map (clause_faults o) cs) h in
      (record { unbroken = own.0; whole = k.0; said = s.0 }, clauses_fine cs own.1 k.1 s.1)

  transitions_fine : (hs : List Given) {n : _} (row : Row_of-Transition n)
      → row_transitions_faults o hs row ≡ [] → TransitionsLackNothing o row → TransitionsSaid o row
      → TransitionsHave IsFineClause row
  transitions_fine hs end_of-Transition k m s = tt
  transitions_fine hs (more_of-Transition ds name a parts ss place rest) k m s =
      let own = parted _ (row_transitions_faults o (with_clauses hs ds) rest) k in
      let none = (three (flat_map (clause_faults o) ds) (delay_faults (with_clauses hs ds)) _ own.0).0 in (
        clauses_fine ds none m.0.0 s.0,
        transitions_fine (with_clauses hs ds) rest own.1 m.1 s.3,
      )

  groups_fine : {n : _} (row : Row_of-Group n) → row_groups_faults o row ≡ []
      → GroupsLackNothing o row → GroupsSaid o row → GroupsHave IsFineClause row
  groups_fine end_of-Group h k s = tt
  groups_fine (more_of-Group (Group' a transitions) rest) h k s =
      let own = parted (row_transitions_faults o [] transitions) (row_groups_faults o rest) h in
      (transitions_fine [] transitions own.0 k.0 s.0, groups_fine rest own.1 k.1 s.1)

  mutual
    part_fine : (x : Part) → part_faults o x ≡ [] → PartLacksNothing o x → PartSaid o x
        → PartBodies (BodyHas IsFineClause) x
    part_fine (part.Body (Body' name header a parts f b groups)) h k s =
        let own = parted _ (row_groups_faults o groups) h in (
          groups_fine groups own.1 k.3 s.3,
          row_fine parts (parted _ (row_faults o parts)
              (parted _ (first_faults o f) own.0).0).1 k.1 s.1,
        )
    part_fine _ h k s = tt

    row_fine : {n : _} (row : Row_of-Part n) → row_faults o row ≡ []
        → RowOfPartsLacksNothing o row → PartsSaid o row → RowBodies (BodyHas IsFineClause) row
    row_fine end_of-Part h k s = tt
    row_fine (more_of-Part x rest) h k s =
        let own = parted (part_faults o x) (row_faults o rest) h in
        (part_fine x own.0 k.0 s.0, row_fine rest own.1 k.1 s.1)

  -- parts that break no rule and lack nothing
  pub parts_fine : (xs : List Part) → flat_map (part_faults o) xs ≡ [] → PartsLackNothing o xs
      → Each (PartSaid o) xs → AllBodies (BodyHas IsFineClause) xs
  parts_fine [] h k s = tt
  parts_fine (x ∷ xs) h k s =
      let own = parted (part_faults o x) (flat_map (part_faults o) xs) h in
      (part_fine x own.0 k.0 s.0, parts_fine xs own.1 k.1 s.1)
