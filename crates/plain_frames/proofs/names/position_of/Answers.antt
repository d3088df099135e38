use Rattle.std.proofs.Common.{sym, ◌∙◌}
use Rattle.std.proofs.lemmas.Bool.{eq-eqb, ne_eqb}
use Rattle.std.proofs.lemmas.Iterator.Adapters.{position_from-zero}
use Rattle.plain_declared.specs.mean_blocks.Frames.{is_declared}
use Rattle.plain_systems.proofs.FirstFound.{passes_here, fails_here, none_here}
use Rattle.plain_frames.proofs.names.position_of.Goals as goal

pub loop-i-init : goal.loop-i-init
loop-i-init c = sym (position_from-zero (is_declared c.args.declared) c.args.frame.now)

pub returns-in-None : goal.returns-in-None
returns-in-None c =
    sym (none_here (is_declared c.args.declared) c.args.frame.now c.loop-i.i
    (sym c.in-None.ensures)) ∙ c.loop-i.invariant

pub returns-then-declared-binding : goal.returns-then-declared-binding
returns-then-declared-binding c =
    sym (passes_here (is_declared c.args.declared) c.args.frame.now c.loop-i.i
    c.in-Some.binding.now (sym c.in-Some.ensures) (eq-eqb _ _ c.if-declared-binding.true))
    ∙ c.loop-i.invariant

pub loop-i-preserved : goal.loop-i-preserved
loop-i-preserved c =
    fails_here (is_declared c.args.declared) c.args.frame.now c.loop-i.i
    c.in-Some.binding.now (sym c.in-Some.ensures) (ne_eqb _ _ c.if-declared-binding.false)
    ∙ c.loop-i.invariant
