use Rattle.std.proofs.Common.{rules, ◌≡◌, Err, sym, subst}
use Rattle.plain_values.specs.GatheredMembers.{IsGathered}
use Rattle.plain_operands.proofs.operands.put_set.Goals as goal

pub returns-in_err-value : goal.returns-in_err-value
returns-in_err-value c = λ zs h.
    let r : c.from_residual.result ≡ Err c.in_err-value.field-0.0 = search rules in
    let all = subst (IsGathered zs) (sym c.replace-members.ensures.value) h in
    rw r (c.in_err-value.ensures zs all)
