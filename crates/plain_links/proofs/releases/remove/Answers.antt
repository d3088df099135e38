use Rattle.plain_queues.specs.plain_systems.HeldSystems.{linked, stamped, situation_of, waiting_in}
use Rattle.plain_links.proofs.SystemLaws.{without_by}
use Rattle.plain_links.proofs.releases.remove.Goals as goal

pub returns : goal.returns
returns c =
    without_by c.args.gone.now (situation_of c.args.system.now) c.keep_rows.new.rows
    (linked c.keep_links.new.links) (linked c.keep_links-2.new.links)
    (waiting_in c.keep_queues.new.queues) (stamped c.keep_stamps.new.stamps)
    c.in_ok-keep_rows.ensures c.in_ok-keep_links.ensures c.in_ok-keep_links-2.ensures
    c.in_ok-keep_queues.ensures c.in_ok-keep_stamps.ensures
