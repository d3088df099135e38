use Rattle.std.proofs.Common.{◌∙◌}
use Rattle.mean_blocks.specs.TextByPlace.{text_of}
use Rattle.est_meaning.proofs.Endings.{settled_again, unsettled_loud, quiet_so}
use Rattle.est_meaning.proofs.ending.stands_quiet.Goals as goal

pub returns-in-Unsettled-clause-quiet : goal.returns-in-Unsettled-clause-quiet
returns-in-Unsettled-clause-quiet g c spec speaks =
    let w = g.W.World in
    let offers = rw c.in-Unsettled.is at (c.in_ok-options.ensures.offers spec speaks) in
    unsettled_loud (w.limit c.args.world.now) (text_of spec) (w.stack c.args.world.now spec).now
    offers.0

pub due_any-requires : goal.due_any-requires
due_any-requires g c spec speaks =
    let w = g.W.World in
    let keeps = c.in_ok-options.ensures.keeps in
    let here = keeps.backward spec speaks in
    let offers = rw c.in-Settled.is at (c.in_ok-options.ensures.offers spec here) in
    settled_again (w.limit c.args.world.now) (w.limit c.options.new.self) (text_of spec)
    (w.stack c.args.world.now spec) (w.stack c.options.new.self spec) keeps.limit_is
    (c.in_ok-options.ensures.stack spec here) offers.0

pub returns-clause-stack : goal.returns-clause-stack
returns-clause-stack g c spec speaks =
    c.in_ok-due.ensures.stack spec (c.in_ok-options.ensures.keeps.forward spec speaks)
    ∙ c.in_ok-options.ensures.stack spec speaks

pub returns-clause-quiet : goal.returns-clause-quiet
returns-clause-quiet g c spec speaks =
    let w = g.W.World in
    let keeps = c.in_ok-options.ensures.keeps in
    let offers = rw c.in-Settled.is at (c.in_ok-options.ensures.offers spec speaks) in
    quiet_so (w.limit c.args.world.now) (w.limit c.options.new.self) (text_of spec)
    (w.stack c.args.world.now spec) (w.stack c.options.new.self spec) c.in_ok-due.due
    keeps.limit_is (c.in_ok-options.ensures.stack spec speaks) offers.0
    (c.in_ok-due.ensures.due spec (keeps.forward spec speaks))
