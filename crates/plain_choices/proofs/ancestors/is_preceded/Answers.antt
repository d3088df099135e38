use Rattle.std.proofs.Common.{◌≡◌, ◌+◌, sym, refl, true, false, arith}
use Rattle.plain_guards.specs.plain_systems.HeldSystems.{situation_of}
use Rattle.plain_choices.proofs.Climbs.{climbed_ends, climbed_whole, climbed_meets, climbed_more}
use Rattle.plain_choices.proofs.Surveys.{not_both}
use Rattle.plain_choices.proofs.ancestors.is_preceded.Goals as goal

false_true : false ≡ true → ⊥
false_true e = not_both false e refl

pub returns-in-None : goal.returns-in-None
returns-in-None c = (
  λ e. absurd (false_true e),
  λ p. absurd (climbed_ends (situation_of c.args.system.now) c.args.dues.now c.args.instance
      c.loop-left.invariant.0 c.loop-left.number c.loop-left.invariant.2
      (sym c.in-None.ensures) p),
)

pub returns-then-is_one_of : goal.returns-then-is_one_of
returns-then-is_one_of c = (
  λ e. climbed_meets (situation_of c.args.system.now) c.args.dues.now c.args.instance
      c.loop-left.invariant.0 c.loop-left.number c.loop-left.invariant.2 c.in-Some.row.now
      (sym c.in-Some.ensures) (c.is_one_of.ensures.0 c.if-is_one_of.true),
  λ p. refl,
)

pub loop-left-preserved : goal.loop-left-preserved
loop-left-preserved c = (
  c.loop-left.invariant.0 + 1,
  (let q = c.loop-left.invariant.1 in omega arith),
  climbed_more (situation_of c.args.system.now) c.args.dues.now c.args.instance
      c.loop-left.invariant.0 c.loop-left.number c.loop-left.invariant.2 c.in-Some.row.now
      (sym c.in-Some.ensures)
      (λ a. not_both c.is_one_of.result (c.is_one_of.ensures.1 a) c.if-is_one_of.false),
)

pub returns : goal.returns
returns c = (
  λ e. absurd (false_true e),
  λ p. absurd (climbed_whole (situation_of c.args.system.now) c.args.dues.now c.args.instance
      c.loop-left.invariant.0 c.loop-left.number c.loop-left.invariant.2
      (let q = c.loop-left.invariant.1 in omega arith) p),
)
