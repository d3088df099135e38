use Rattle.std.proofs.Common.{refl}
use Rattle.plain_guards.specs.plain_systems.HeldSystems.{situation_of}
use Rattle.plain_choices.proofs.Blocking.{by_parent, by_ancestor, only_ancestor}
use Rattle.plain_choices.proofs.Surveys.{not_both}
use Rattle.plain_choices.proofs.ancestors.is_blocked.Goals as goal

pub returns-then-is_one_of : goal.returns-then-is_one_of
returns-then-is_one_of c = (
  λ e. by_parent (situation_of c.args.system.now) c.args.dues.now c.args.row.now c.requires.row
      (c.is_one_of.ensures.0 c.if-is_one_of.true),
  λ p. refl,
)

pub returns-then-row : goal.returns-then-row
returns-then-row c = (
  λ e. by_ancestor (situation_of c.args.system.now) c.args.dues.now c.args.row.now c.requires.row
      (c.requires.blocked.sound c.args.row.now.parent (c.is_one_of-then-row.ensures.0 e)),
  λ p. c.is_one_of-then-row.ensures.1
      (c.requires.blocked.complete c.args.row.now.parent c.if-row.true
      (only_ancestor (situation_of c.args.system.now) c.args.dues.now c.args.row.now
      c.requires.row
      (λ a. not_both c.is_one_of.result (c.is_one_of.ensures.1 a) c.if-is_one_of.false) p)),
)

pub returns : goal.returns
returns c = (
  λ e. by_ancestor (situation_of c.args.system.now) c.args.dues.now c.args.row.now c.requires.row
      (c.is_preceded.ensures.0 e),
  λ p. c.is_preceded.ensures.1
      (only_ancestor (situation_of c.args.system.now) c.args.dues.now c.args.row.now
      c.requires.row
      (λ a. not_both c.is_one_of.result (c.is_one_of.ensures.1 a) c.if-is_one_of.false) p),
)
