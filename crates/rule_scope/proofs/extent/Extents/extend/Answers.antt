use Rattle.std.proofs.Common.{arith, ap, sym, subst, ◌≤◌}
use Rattle.std.specs.List.Sorted.{IsNonDecreasingBy}
use Rattle.rule_scope.specs.declared.declaration.Extent.{Extent}
use Rattle.rule_scope.specs.Declaring.{last_from}
use Rattle.rule_scope.proofs.Extents.{push_later}
use Rattle.rule_scope.proofs.extent.Extents.extend.Goals as goal

pub invariant_of-self-2 : goal.invariant_of-self-2
invariant_of-self-2 c =
    let begins : last_from c.self.inside.list 0 ≤ c.max-from.result =
    omega (
      arith,
      c.max-from.ensures,
      c.last_from.ensures,
      ap (λ es. last_from es 0)
          c.as_slice.ensures,
    ) in
    subst (λ es. IsNonDecreasingBy (λ (x : Extent). x.from) es) (sym c.in_ok-push.ensures.ok)
    (push_later c.self.inside.list _ c.self.invariant begins)
