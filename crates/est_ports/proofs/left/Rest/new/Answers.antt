use Rattle.std.proofs.Common.{◌≡◌, ◌∙◌, [], ap, refl, reverse}
use Rattle.est_ports.specs.declared.left.Rest.{Rest}
use Rattle.est_ports.specs.inside.Cursors.{starts}
use Rattle.est_ports.specs.inside.Leftover.{lists_of, used_of}
use Rattle.est_ports.proofs.StandLaws.{first_stands}
use Rattle.est_ports.proofs.left.Rest.new.Goals as goal

pub returns-clause-stands : goal.returns-clause-stands
returns-clause-stands c =
    let lists = c.args.lists.now in
    let rest : Rest =
    record { phase = 0; cursors = c.start_all.new.cursors; used = c.new-2.result } in
    let cursors : rest.cursors.items ≡ starts (lists_of lists 0) =
    c.in_ok-start_all.ensures ∙ ap starts c.lists_at.ensures in
    let used : used_of rest ≡ [] = ap reverse c.new-2.ensures.items in
    first_stands lists rest refl cursors used
