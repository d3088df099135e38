use Rattle.std.proofs.Common.{List, map, reverse, ap, subst, ◌∙◌}
use Rattle.mean_ports.specs.PortRunLaws.{plain_move}
use Rattle.est_ports.specs.declared.left.Used.{Used}
use Rattle.est_ports.specs.inside.Walk.{BeginsWith}
use Rattle.est_ports.proofs.explain.accept.Goals as goal

pub returns : goal.returns
returns c = (
  c.in_ok-plain.ensures ∙ ap (map plain_move) c.deref.ensures.value,
  subst (λ (us : List Used). BeginsWith c.args.lists.now (reverse us) c.in_ok-merge_of.field-0)
      c.deref-2.ensures.value c.in_ok-merge_of.ensures,
)
