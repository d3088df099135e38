use Rattle.plain_transitions.proofs.TableLaws.{none_written, some_written}
use Rattle.plain_transitions.proofs.table.written_of.Goals as goal

pub returns-in-None : goal.returns-in-None
returns-in-None c = none_written c.args.text.now c.args.place c.new.result.items
    c.in-None.ensures c.new.ensures.items

pub returns-in_ok-written-in-Some : goal.returns-in_ok-written-in-Some
returns-in_ok-written-in-Some c = some_written c.args.text.now c.args.place c.outline.result.now
    c.in-Some.body.now c.in_ok-written-in-Some.written.items c.outline.ensures c.in-Some.ensures
    c.in_ok-written-in-Some.ensures
