use Rattle.std.proofs.Common.{ap, ◌∙◌}
use Rattle.rule_ports.specs.Counts.{counts_by, counts_of}
use Rattle.est_check.proofs.judging.kept_of.Goals as goal

pub returns-in-Ok-clause-good : goal.returns-in-Ok-clause-good
unfolding counts_of
returns-in-Ok-clause-good c = record {
  good = c.requires.good;
  outline_is = c.requires.outline;
  ports_are = c.in-Ok.ensures;
  counts_are = c.numbers-counts.ensures
      ∙ ap (λ o. counts_by o c.args.spec.now) (c.outline.ensures ∙ c.requires.outline);
}
