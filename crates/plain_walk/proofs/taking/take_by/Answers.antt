use Rattle.std.proofs.Common.{◌≡◌, ap, ◌∙◌, true, arith}
use Rattle.est_meaning.specs.mean_blocks.GlobalSituation.{Situation}
use Rattle.plain_frames.specs.plain_systems.HeldSystems.{situation_of}
use Rattle.plain_walk.proofs.TakenItems.{same_rows, taken_there}
use Rattle.plain_walk.proofs.taking.take_by.Goals as goal

pub returns-clause-taken : goal.returns-clause-taken
returns-clause-taken c ch is =
    let holds : c.in_ok-sight.sight.holds ≡ true = grind (arith, c.if-not-sight.false) in
    taken_there c.args.limit c.args.text.now (situation_of c.args.working.now.system)
    (situation_of c.look.new.working.system) (situation_of c.take_at.new.system) ch
    c.look.new.working.frames c.in_ok-sight.sight c.in_ok-item.item
    (c.in_ok-sight.ensures.sight ch is) holds c.in_ok-sight.ensures.system c.in_ok-item.ensures

pub returns-clause-rows : goal.returns-clause-rows
returns-clause-rows c =
    same_rows c.args.text.now c.in_ok-sight.sight.taken
    (situation_of c.look.new.working.system) (situation_of c.take_at.new.system)
    c.in_ok-item.ensures.rest
    ∙ ap (λ (s : Situation). s.rows) c.in_ok-sight.ensures.system
