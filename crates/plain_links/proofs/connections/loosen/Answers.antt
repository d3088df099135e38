use Rattle.plain_queues.specs.plain_systems.HeldSystems.{linked, situation_of}
use Rattle.plain_links.proofs.SystemLaws.{unfastened_by}
use Rattle.plain_links.proofs.connections.loosen.Goals as goal

pub returns : goal.returns
returns c =
    unfastened_by c.args.text.now (situation_of c.args.system.now) c.args.outer.now
    c.in_ok-innermost.innermost (situation_of c.move_items-done.new.system)
    (linked c.unlink.new.links) c.in_ok-innermost.ensures c.in_ok-done.ensures
    c.in_ok-unlink.ensures
