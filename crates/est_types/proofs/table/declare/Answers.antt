use Rattle.std.specs.Prelude.{flat_map}
use Rattle.std.proofs.Common.{sym, ap, subst, ◌∙◌, None}
use Rattle.est_syntax.specs.Least.{IsIn, IsLeast}
use Rattle.rule_scope.specs.LeastSoFar.{least_with}
use Rattle.rule_scope.proofs.LeastLaws.{least_is}
use Rattle.est_types.specs.DeclarationFaults.{part_faults, declaration_faults}
use Rattle.est_types.specs.declared.modules.Owner.TheVariants as owners
use Rattle.est_types.specs.declared.table.Whole.{Whole}
use Rattle.est_types.proofs.table.declare.Goals as goal

pub returns-clause-fault : goal.returns-clause-fault
returns-clause-fault c =
    subst (IsLeast (λ f. IsIn f (declaration_faults c.args.spec.now)))
    (sym (ap (λ (w : Whole). w.fault) c.in_ok-new.ensures ∙ c.in_ok-fault.ensures
    ∙ ap (λ o. least_with None (flat_map (part_faults o owners.Specification) c.args.spec.now.parts))
    c.in_ok-outline.ensures))
    (least_is (declaration_faults c.args.spec.now))
