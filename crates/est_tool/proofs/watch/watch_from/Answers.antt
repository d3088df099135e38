use Rattle.std.proofs.Common.{sym, subst, [], ◌∷◌}
use Rattle.call_watch.specs.Endings.{standard_input}
use Rattle.call_watch.specs.inside.Recordings.{watch_of}
use Rattle.est_tool.proofs.WatchLaws.{spent_same, watch_at, watched_does}
use Rattle.est_tool.proofs.watch.watch_from.Goals as goal

pub returns-in-Ok : goal.returns-in-Ok
returns-in-Ok g c =
    let does = c.watch_text.ensures in
    let spec = c.args.checked.now in
    let limits = c.args.limits.now in
    let asks = c.requires.1.1.1 in
    let at = watch_at spec limits c.in-Ok.recording.limits
    (λ s. g.W.World.stack c.args.world s) c.args.outs g.setup asks.0 c.in-Ok.ensures.limits
    (asks.1.1.1.stack_is spec asks.1.0) in
    record {
      told = does.told;
      quiet = does.quiet;
      failed = λ fault. ((at.outs, at.situation, at.ready), does.failed fault);
      answers = record { asked = does.usage; fault = does.unwritten; quiet = does.written };
      names = standard_input ∷ [];
      started = does.started;
      does = watched_does spec limits.silent limits.budget limits.statements _ _ _ _ _
          (watch_of g.setup c.in-Ok.recording.limits.budget spec) does.idle does.bytewise
          (λ some. does.watches some spec
          (subst (λ world. g.W.World.speaks world spec) (sym c.in-Ok.ensures.world) asks.1.0))
          at;
    }

pub returns-in-Err : goal.returns-in-Err
returns-in-Err g c = spent_same c.args.checked.now _ _ _ _ _ _ _
