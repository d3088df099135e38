use Rattle.est_syntax.specs.declared.body.Body.{out-Body}
use Rattle.plain_transitions.proofs.TableLaws.{written_all}
use Rattle.plain_transitions.proofs.table.written_in.Goals as goal

pub returns : goal.returns
returns c = written_all c.args.outline.now c.as_slice.result.now (out-Body c.args.body.now).groups
    c.new-written.result.items c.write_groups.new.into.items c.new-written.ensures.items
    c.as_slice.ensures c.in_ok-write_groups.ensures
