use Rattle.std.proofs.Common.{◌≡◌, ◌∙◌, ◌++◌, map, ap}
use Rattle.est_meaning.specs.declared.trace.Expected.TheVariants.{Known}
use Rattle.est_ports.specs.inside.Cursors.{cut}
use Rattle.est_ports.specs.inside.Leftover.{lists_of}
use Rattle.est_ports.specs.inside.PortOrder.{in_order}
use Rattle.est_ports.proofs.OrderCalls.{left_written}
use Rattle.est_ports.proofs.merges.write_left.Goals as goal

pub returns : goal.returns
returns c =
    let lists = c.args.lists.now in
    let rest = c.args.rest.now in
    let old = c.args.merge.now in
    let cs : c.deref.result.now ≡ rest.cursors.items = cc c.deref.ensures.value in
    let first : c.write_cut.new.merge
    ≡ old ++ map Known (in_order (cut rest.cursors.items (lists_of lists rest.phase))) =
    c.in_ok-write_cut.ensures
    ∙ ap (λ w. old ++ map Known (in_order (cut w c.lists_at.result.now))) cs
    ∙ ap (λ w. old ++ map Known (in_order (cut rest.cursors.items w))) c.lists_at.ensures in
    left_written lists rest.phase rest.cursors.items old c.write_cut.new.merge
    c.write_later.new.merge first c.in_ok-write_later.ensures
