use Rattle.std.specs.Prelude.{flat_map}
use Rattle.std.proofs.Common.{refl}
use Rattle.est_syntax.specs.declared.type_text.VarDef.{VarDef}
use Rattle.rule_scope.proofs.LeastLaws.{least_loop}
use Rattle.rule_declares.specs.rule_kinds.TypeTexts.{text_type}
use Rattle.rule_declares.proofs.of_rule_kinds.Turns.{after_loop}
use Rattle.est_check.specs.Clauses.{tuples, choices_with, choices_by}
use Rattle.est_check.specs.Clauses.{domain_faults}
use Rattle.est_check.proofs.clauses.check_domains.Goals as goal

pub loop-def-preserved : goal.loop-def-preserved
loop-def-preserved c = (
  after_loop (λ vs n. tuples c.args.outline.now n vs) (λ n (v : VarDef). choices_with
      c.args.outline.now n v.names (choices_by (text_type c.args.outline.now v.text)))
      _ _ _ _ _ _ (λ y ys s. refl) c.loop-def-test.true c.def-item.is c.in_ok-number.ensures.choices
      c.loop-def.invariant.0,
  least_loop (flat_map (domain_faults c.args.outline.now)) (domain_faults c.args.outline.now) _ _ _ _ _ _
      (λ y ys. refl) c.loop-def-test.true c.def-item.is
      c.in_ok-number.ensures.faults c.loop-def.invariant.1,
)
