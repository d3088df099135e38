use Rattle.std.proofs.Common.{arith, ◌≡◌, refl, sym, subst, ◌-◌, IfOk, OnOk}
use Rattle.std.proofs.lemmas.Result.{on_ok_weaker}
use Rattle.rule_scope.proofs.LeastLaws.{least_loop}
use Rattle.rule_kinds.specs.TypeTexts.{fields_after, with_def, def_faults, defs_faults}
use Rattle.rule_scope.specs.LeastSoFar.{least_with}
use Rattle.rule_kinds.proofs.Rows.{array_least, record_least, set_type, set_broken}
use Rattle.rule_kinds.proofs.Turns.{after_loop, index_turn}
use Rattle.rule_kinds.proofs.texts.+texts.Goals as goal

pub check_text-returns-in_ok-kind-in-Array-clause-faults :
    goal.check_text-returns-in_ok-kind-in-Array-clause-faults
check_text-returns-in_ok-kind-in-Array-clause-faults t c =
    on_ok_weaker c.check_indices.result
    (array_least _ _ _ _ _ _ _ _ _ _ c.in-Array.is c.get.ensures c.in_ok-kind-in-Array.ensures.kind
    c.in_ok-kind-in-Array.ensures.faults)
    c.check_indices.ensures.faults

pub check_text-returns-in_ok-gathered-in-Fields-clause-faults :
    goal.check_text-returns-in_ok-gathered-in-Fields-clause-faults
check_text-returns-in_ok-gathered-in-Fields-clause-faults t c =
    on_ok_weaker c.check_fields.result
    (record_least _ _ _ _ _ _ _ _ c.in-Fields.is c.in_ok-gathered-in-Fields.ensures.fields
    c.in_ok-gathered-in-Fields.ensures.faults)
    c.check_fields.ensures.faults

pub check_text-returns-in-Set-clause-kind : goal.check_text-returns-in-Set-clause-kind
check_text-returns-in-Set-clause-kind t c =
    subst (λ k. IfOk c.check_base.result (λ m. m ≡ k))
    (sym (set_type _ _ _ _ _ c.in-Set.is c.get-in-Set.ensures)) c.check_base.ensures.kind

pub check_text-returns-in-Set-clause-faults : goal.check_text-returns-in-Set-clause-faults
check_text-returns-in-Set-clause-faults t c =
    subst (λ fs. OnOk c.check_base.result (c.check_base.new.least.at
    ≡ least_with c.args.least.now.at fs))
    (sym (set_broken _ _ _ _ _ c.in-Set.is c.get-in-Set.ensures)) c.check_base.ensures.faults

pub check_indices-loop-i-preserved : goal.check_indices-loop-i-preserved
check_indices-loop-i-preserved t c =
    index_turn c.args.outline.now c.as_slice-texts.result.now _ _ _ (c.loop-i.i - 1) c.loop-i.i _ _
    _ _ _ (omega (arith, c.loop-i-test.true))
    (omega (arith, c.loop-i-test.true, c.loop-i.auto.i)) c.index-texts-i.is
    c.in_ok-kind.ensures.kind c.in_ok-kind.ensures.faults c.loop-i.invariant

pub check_defs-loop-def-preserved : goal.check_defs-loop-def-preserved
check_defs-loop-def-preserved t c = (
  after_loop (λ ds g. fields_after c.args.outline.now ds g) (with_def c.args.outline.now) _ _ _ _ _
      _ (λ y ys s. refl) c.loop-def-test.true c.def-item.is c.in_ok-gathered.ensures.fields
      c.loop-def.invariant.0,
  least_loop (defs_faults c.args.outline.now) (def_faults c.args.outline.now) _ _ _ _ _ _
      (λ y ys. refl) c.loop-def-test.true c.def-item.is c.in_ok-gathered.ensures.faults
      c.loop-def.invariant.1,
)
