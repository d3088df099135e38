use Rattle.std.proofs.Common.{rules, sym, ap, ◌∙◌, FitsSigned, w32}
use Rattle.std.proofs.lemmas.Int.{to_z-of_z}
use Rattle.est_meaning.specs.mean_blocks.Outcome.{onward}
use Rattle.est_meaning.specs.mean_blocks.ValueOperators.{ordinal}
use Rattle.plain_clauses.specs.EvaluatedParts.{held}
use Rattle.plain_clauses.specs.declared.evaluated.Evaluated.TheVariants.{Ordinal}
use Rattle.plain_guards.proofs.parts.part_of.Goals as goal

pub returns-in-Some : goal.returns-in-Some
returns-in-Some c =
    let fits : FitsSigned w32 c.in-Some.z = search rules in
    ap Ordinal (to_z-of_z w32 c.in-Some.z fits)
    ∙ sym (ap (λ o. held (onward o ordinal)) (c.in-Some.ensures c.args.limit))
