use Rattle.std.proofs.Common.{refl}
use Rattle.est_ports.proofs.CallLaws.{settled_call, unsettled_call, on_ok}
use Rattle.est_ports.proofs.turn.list_moves.Goals as goal

pub returns-in-Settled-clause-ok : goal.returns-in-Settled-clause-ok
returns-in-Settled-clause-ok g c = on_ok c.list_all.result (λ h spec speaks.
    settled_call (g.setup spec) spec (g.W.World.limit c.args.world.now) c.args.task.now.silent
    c.args.task.now.lists.now (g.W.World.stack c.args.world.now spec)
    (g.W.World.stack c.options.new.self spec) c.args.walk.now
    (record c.args.walk.now { offers = c.options.new.into }) c.list_all.new.walk
    (c.requires.1.1 spec speaks) c.requires.1.0 (c.in_ok-options.ensures.stack spec speaks) refl h
    refl refl refl refl refl refl
    (rw c.in-Settled.is at (c.in_ok-options.ensures.offers spec speaks))) c.list_all.ensures.listed

pub returns-in_ok-note-in-Unsettled-clause-ok : goal.returns-in_ok-note-in-Unsettled-clause-ok
returns-in_ok-note-in-Unsettled-clause-ok g c = on_ok c.list_all-in-Unsettled.result
    (λ h spec speaks.
    unsettled_call (g.setup spec) spec (g.W.World.limit c.args.world.now) c.args.task.now.silent
    c.args.task.now.lists.now (g.W.World.stack c.args.world.now spec)
    (g.W.World.stack c.options.new.self spec) c.args.walk.now c.note.new.self
    c.list_all-in-Unsettled.new.walk (c.requires.1.1 spec speaks) c.requires.1.0
    (c.in_ok-options.ensures.stack spec speaks) (rw c.in_ok-note-in-Unsettled.ensures.noted refl) h
    (rw c.in_ok-note-in-Unsettled.ensures.noted refl)
    (rw c.in_ok-note-in-Unsettled.ensures.noted refl)
    (rw c.in_ok-note-in-Unsettled.ensures.noted refl)
    (rw c.in_ok-note-in-Unsettled.ensures.noted refl)
    (rw c.in_ok-note-in-Unsettled.ensures.noted refl)
    (rw c.in_ok-note-in-Unsettled.ensures.noted refl)
    (rw c.in_ok-note-in-Unsettled.ensures.noted
    (rw c.in-Unsettled.is at (c.in_ok-options.ensures.offers spec speaks))))
    c.list_all-in-Unsettled.ensures.listed
