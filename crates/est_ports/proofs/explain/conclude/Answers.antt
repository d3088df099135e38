use Rattle.std.proofs.Common.{List, map, reverse, refl, ap, subst, ◌∙◌}
use Rattle.mean_ports.specs.PortRunLaws.{plain_move}
use Rattle.est_ports.specs.declared.left.Used.{Used}
use Rattle.est_ports.specs.inside.Walk.{BeginsWith}
use Rattle.est_ports.proofs.explain.conclude.Goals as goal

pub returns-in_ok-merge_of-in-Some : goal.returns-in_ok-merge_of-in-Some
returns-in_ok-merge_of-in-Some c = (
  c.in-Some.passed,
  c.in-Some.is,
  c.in_ok-plain-in-Some.ensures ∙ ap (map plain_move) c.as_slice.ensures,
  refl,
  refl,
  subst (λ (us : List Used). BeginsWith c.args.lists.now (reverse us)
      c.in_ok-merge_of-in-Some.field-0) c.as_slice-in-Some.ensures
      c.in_ok-merge_of-in-Some.ensures,
)
