use Rattle.std.proofs.Common.{All, reverse, sym, ap, subst}
use Rattle.est_meaning.specs.RecordedTraces.{Recorded, HasUnseen}
use Rattle.est_ports.specs.inside.PortOrder.{HasWrittenAll}
use Rattle.est_ports.proofs.OrderLaws.{all_seen, merges_from}
use Rattle.est_ports.proofs.merges.merge_of.Goals as goal

pub new-requires : goal.new-requires
new-requires c =
    let w = c.in_ok-write_all.ensures in
    subst (λ x. All HasUnseen x) (sym w.new_is) (all_seen w.events)

pub returns : goal.returns
returns c left events many u =
    let used = reverse c.args.used.now in
    merges_from c.args.lists.now many used left events c.new.result
    (ap (λ (r : Recorded). r.quiet) c.new.ensures)
    (subst (λ (r : Recorded). HasWrittenAll c.args.lists.now used r.events) (sym c.new.ensures)
    c.in_ok-write_all.ensures) u
