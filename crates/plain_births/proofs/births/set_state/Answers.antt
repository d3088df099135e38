use Rattle.std.proofs.Common.{ap, ◌∙◌, sym, refl, Option, None, ℕ}
use Rattle.plain_texts.specs.mean_blocks.GlobalSituation.{is_numbered, with_row}
use Rattle.plain_texts.specs.mean_blocks.InstanceEffects.{in_state}
use Rattle.plain_frames.specs.plain_systems.HeldSystems.{situation_of}
use Rattle.plain_births.proofs.BirthLaws.{same_changed, with_rows}
use Rattle.plain_births.proofs.births.set_state.Goals as goal

pub returns-in-None : goal.returns-in-None
returns-in-None c =
    let s = situation_of c.args.system.now in
    sym (ap (λ (o : Option ℕ). with_row c.args.instance (in_state o) s) c.in-None.is
    ∙ ap (with_rows s) (same_changed (is_numbered c.args.instance) (in_state None)
    c.args.system.now.rows (λ r. refl)))
