use Rattle.std.proofs.Common.{◌≡◌, drop}
use Rattle.mean_blocks.specs.StatementEffects.{is_chosen}
use Rattle.plain_operands.proofs.chosen.is_chosen.Given as goal

abbrev pub invariant-loop-constant : goal.invariant-loop-constant
invariant-loop-constant l = is_chosen l.site.text.now.outline (drop l.constant-index l.constants) l.z
    ≡ is_chosen l.site.text.now.outline l.constants l.z
