use Rattle.std.proofs.Common.{◌≡◌, [], ◌∷◌, ◌++◌, sym, subst}
use Rattle.text_reader.proofs.Steps.{still_well}
use Rattle.est_trace.specs.inside.GrowingLists.{IsEmptyPhase}
use Rattle.est_trace.proofs.GrowingLists.{time_more}
use Rattle.est_trace.proofs.growing.Growing.end_phase.Goals as goal

pub returns-clause-grown : goal.returns-clause-grown
returns-clause-grown c = λ w.
    let v = still_well c.keep-2.ensures.still w in
    let u = still_well c.keep.ensures.still v in
    let kept = c.keep.ensures.added v in
    let phases : c.keep.new.items ≡ c.args.self.now.phases ++ c.args.self.now.phase ∷ [] = cc in
    time_more c.args.count c.args.units c.args.self.now record {
      phases = c.keep.new.items;
      times = c.keep-2.new.items;
      phase = c.replace-phase.new.dest;
    } phases (c.keep-2.ensures.added w)
    (subst (λ p. IsEmptyPhase c.args.count p) (sym c.replace-phase.ensures.after)
    (c.empty_phase-next.ensures.empty u))
