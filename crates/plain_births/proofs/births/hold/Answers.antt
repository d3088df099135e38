use Rattle.std.proofs.Common.{ap, ◌∙◌, sym}
use Rattle.plain_texts.specs.mean_blocks.GlobalSituation.{is_numbered}
use Rattle.plain_texts.specs.mean_blocks.InstanceEffects.{holds}
use Rattle.plain_frames.specs.plain_systems.HeldSystems.{situation_of}
use Rattle.plain_births.proofs.BirthLaws.{none_changed, changed_there, with_rows}
use Rattle.plain_births.proofs.births.hold.Goals as goal

pub returns-in-None : goal.returns-in-None
returns-in-None c =
    let test = is_numbered c.args.parent in
    ap (with_rows (situation_of c.args.system.now))
    (sym (none_changed test (holds c.args.element.now c.args.number) c.args.system.now.rows
    (sym c.in-None.ensures)))

pub returns-in_ok-hold_in-in-Some : goal.returns-in_ok-hold_in-in-Some
returns-in_ok-hold_in-in-Some c =
    ap (with_rows (situation_of c.args.system.now))
    (changed_there (is_numbered c.args.parent) (holds c.args.element.now c.args.number)
    c.args.system.now.rows c.rows.inside.items.items c.in-Some.at c.index_mut.result.now
    c.hold_in.new.row (c.rows.view_is ∙ c.in_ok-rows-in-Some.ensures.value)
    (sym c.in-Some.ensures) c.index_mut.ensures.value c.in_ok-hold_in-in-Some.ensures)
