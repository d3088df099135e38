use Rattle.std.proofs.Common.{◌≡◌, ◌∙◌, ◌++◌, take, arith}
use Rattle.std.proofs.lemmas.Grind.{common_steps}
use Rattle.call_files.proofs.CountLaws.{AllGoOn-then, AllStay-then, rose_then}
use Rattle.call_files.proofs.PieceLaws.{TakesOff-next, SameTold-then}
use Rattle.call_files.proofs.whole.read_whole.Goals as goal

pub turns-preserved : goal.turns-preserved
turns-preserved g c =
    let grown : c.extend_from_slice.new.self.items ≡ c.turns.bytes.items ++ take c.in-Ok.n
    c.more.new.into = grind (arith, common_steps) in
    record {
      within = omega (arith, c.len-in-turns.ensures, c.if-len-limit.false);
      progress = grind (arith, common_steps);
      same = SameTold-then c.turns.invariant.same c.more.ensures.told;
      quiet = AllStay-then c.turns.invariant.quiet c.in-Ok.ensures.quiet;
      started = c.more.ensures.started ∙ c.turns.invariant.started;
      asked = grind (arith, common_steps);
      reads = c.more.ensures.reads c.args.name.now c.turns.invariant.reads;
      taken = grind (arith, common_steps, grown);
      front = rw grown (TakesOff-next _ _ _ c.turns.bytes.items (take c.in-Ok.n c.more.new.into)
          c.turns.invariant.front c.in-Ok.ensures.piece);
    }

pub returns-in_err-map_err-clause-told : goal.returns-in_err-map_err-clause-told
returns-in_err-map_err-clause-told g c = c.start.ensures.told

pub returns-in_err-map_err-clause-counts : goal.returns-in_err-map_err-clause-counts
returns-in_err-map_err-clause-counts g c = c.start.ensures.counts

pub returns-in-Ok-eq0-clause-told : goal.returns-in-Ok-eq0-clause-told
returns-in-Ok-eq0-clause-told g c = SameTold-then c.turns.invariant.same c.more.ensures.told

pub returns-in-Ok-eq0-clause-counts : goal.returns-in-Ok-eq0-clause-counts
returns-in-Ok-eq0-clause-counts g c = AllGoOn-then c.turns.invariant.quiet c.more.ensures.counts

pub returns-in-Ok-eq0-clause-faults : goal.returns-in-Ok-eq0-clause-faults
returns-in-Ok-eq0-clause-faults g c = AllStay-then c.turns.invariant.quiet c.in-Ok-eq0.ensures.quiet

pub returns-in-Err-clause-told : goal.returns-in-Err-clause-told
returns-in-Err-clause-told g c = SameTold-then c.turns.invariant.same c.more.ensures.told

pub returns-in-Err-clause-counts : goal.returns-in-Err-clause-counts
returns-in-Err-clause-counts g c = AllGoOn-then c.turns.invariant.quiet c.more.ensures.counts

pub returns-in-Err-clause-faults : goal.returns-in-Err-clause-faults
returns-in-Err-clause-faults g c = rose_then c.turns.invariant.quiet c.args.name.now
    (c.in-Err.ensures.failed c.args.name.now c.turns.invariant.reads)

pub returns-then-len-limit-clause-told : goal.returns-then-len-limit-clause-told
returns-then-len-limit-clause-told g c = SameTold-then c.turns.invariant.same c.more.ensures.told

pub returns-then-len-limit-clause-counts : goal.returns-then-len-limit-clause-counts
returns-then-len-limit-clause-counts g c = AllGoOn-then c.turns.invariant.quiet
    c.more.ensures.counts

pub returns-then-len-limit-clause-faults : goal.returns-then-len-limit-clause-faults
returns-then-len-limit-clause-faults g c = AllStay-then c.turns.invariant.quiet
    c.in-Ok.ensures.quiet
