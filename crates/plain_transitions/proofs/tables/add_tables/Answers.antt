use Rattle.plain_transitions.proofs.TableLaws.{tabled_none, tabled_more}
use Rattle.plain_transitions.proofs.tables.add_tables.Goals as goal

pub loop-body-init : goal.loop-body-init
loop-body-init c = tabled_none c.args.text.now c.args.tables.now.entries

pub loop-body-preserved : goal.loop-body-preserved
loop-body-preserved c = tabled_more c.args.text.now c.args.bodies.now c.loop-body.body-index _
    c.args.tables.now.entries c.loop-body.tables.entries c.add_table.new.tables.entries
    c.loop-body-test.true c.body-item.is c.loop-body.invariant c.in_ok-add_table.ensures
