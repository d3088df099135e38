use Rattle.std.proofs.Common.{◌≡◌, drop}
use Rattle.plain_clauses.specs.EvaluatedParts.{ordinals_held}
use Rattle.plain_clauses.proofs.PartLaws.{after}
use Rattle.plain_clauses.proofs.evaluated.ordinals_held.Given as goal

-- the ordinals so far, and those that are left, are all
abbrev pub invariant-loop-part : goal.invariant-loop-part
invariant-loop-part l =
    after l.ordinals (ordinals_held (drop l.part-index l.parts)) ≡ ordinals_held l.parts
