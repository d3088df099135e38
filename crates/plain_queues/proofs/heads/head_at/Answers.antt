use Rattle.std.proofs.Common.{ap, ◌∙◌, ◌≡◌, Option, slice_get}
use Rattle.std.specs.Prelude.{find}
use Rattle.est_syntax.specs.declared.header.Queue.{Queue}
use Rattle.plain_texts.specs.mean_blocks.QueueEffects.{queue_by, queue_of}
use Rattle.plain_systems.specs.declared.system.Waiting.{Waiting}
use Rattle.plain_systems.specs.HeldSystems.{is_waiting}
use Rattle.plain_queues.proofs.QueueLaws.{held_or_none}
use Rattle.plain_queues.proofs.heads.head_at.Goals as goal
use Rattle.plain_queues.proofs.heads.head_at.Goals.{After-queue_at}

there : (c : After-queue_at)
    → find (is_waiting (queue_by c.args.point.now c.discipline-discipline.result)) c.get.result.now
    ≡ find (is_waiting (queue_of c.args.text.now c.args.point.now)) c.args.system.now.queues
there c =
    ap (find (is_waiting (queue_by c.args.point.now c.discipline-discipline.result)))
    c.get.ensures
    ∙ ap (λ (d : Queue).
    find (is_waiting (queue_by c.args.point.now d)) c.args.system.now.queues)
    c.discipline-discipline.ensures

pub returns-in-None : goal.returns-in-None
returns-in-None c =
    ap (λ (o : Option Waiting). slice_get (held_or_none o) 0)
    (c.in-None.ensures ∙ there (goal.at.returns-in-None c).After-queue_at)

pub returns-in-Some : goal.returns-in-Some
returns-in-Some c =
    c.head.ensures ∙ ap (λ (o : Option Waiting). slice_get (held_or_none o) 0)
    (c.in-Some.ensures ∙ there (goal.at.returns-in-Some c).After-queue_at)
