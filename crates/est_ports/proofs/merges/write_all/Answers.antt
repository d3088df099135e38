use Rattle.std.proofs.Common.{reverse}
use Rattle.est_ports.proofs.OrderLaws.{written_all}
use Rattle.est_ports.proofs.merges.write_all.Goals as goal

pub returns : goal.returns
returns c =
    written_all c.args.lists.now (reverse c.args.used.now) c.write_used.new.rest.phase
    c.write_used.new.rest.cursors.items c.args.merge.now c.write_used.new.merge
    c.write_left.new.merge c.requires c.in_ok-write_used.ensures c.in_ok-write_left.ensures
