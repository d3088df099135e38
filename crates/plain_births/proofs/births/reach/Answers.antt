use Rattle.std.proofs.Common.{ap, ◌∙◌, sym, Some}
use Rattle.plain_texts.specs.mean_blocks.GlobalSituation.{is_numbered}
use Rattle.plain_texts.specs.mean_blocks.InstanceEffects.{in_state}
use Rattle.plain_frames.specs.plain_systems.HeldSystems.{situation_of}
use Rattle.plain_births.proofs.BirthLaws.{none_changed, changed_there, with_rows}
use Rattle.plain_births.proofs.births.reach.Goals as goal

pub returns-in-None : goal.returns-in-None
returns-in-None c =
    let test = is_numbered c.args.instance in
    ap (with_rows (situation_of c.args.system.now))
    (sym (none_changed test (in_state (Some c.args.state)) c.args.system.now.rows
    (sym c.in-None.ensures)))

pub returns-in_ok-row-in-Some : goal.returns-in_ok-row-in-Some
returns-in_ok-row-in-Some c =
    let test = is_numbered c.args.instance in
    let change = in_state (Some c.args.state) in
    ap (with_rows (situation_of c.args.system.now))
    (changed_there test change c.args.system.now.rows c.rows.inside.items.items c.in-Some.at
    c.index_mut.result.now (change c.in_ok-row-in-Some.row.now)
    (c.rows.view_is ∙ c.in_ok-rows-in-Some.ensures.value)
    (sym c.in-Some.ensures)
    c.index_mut.ensures.value (ap change c.in_ok-row-in-Some.ensures.value))
