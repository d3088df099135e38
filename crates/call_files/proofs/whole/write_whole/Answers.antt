use Rattle.std.proofs.Common.{take, ◌∙◌}
use Rattle.std.proofs.lemmas.Result.{err_from_is_err_and}
use Rattle.call_files.proofs.CountLaws.{GoesOn-then, GoesOn-same}
use Rattle.call_files.proofs.PieceLaws.{IsPrefix-take, appended-next, next_within}
use Rattle.call_files.proofs.whole.write_whole.Goals as goal

pub returns-in_err-done-clause-err : goal.returns-in_err-done-clause-err
returns-in_err-done-clause-err g c =
    let p = err_from_is_err_and c.from_residual.result c.from_residual.ensures.1 in
    rw p.1 (
      take c.loop-done.done c.args.bytes.now,
      IsPrefix-take _ _,
      c.in_err-done.ensures.err
          ∙ c.loop-done.invariant.written,
    )

pub loop-done-preserved : goal.loop-done-preserved
loop-done-preserved g c = record {
  within = next_within c.args.bytes.now c.loop-done.done c.in_ok-done.field-0
      c.loop-done.invariant.within c.in_ok-done.ensures.within;
  quiet = c.in_ok-done.ensures.quiet ∙ c.loop-done.invariant.quiet;
  written = appended-next _ _ _ c.args.bytes.now c.loop-done.done c.in_ok-done.field-0
      c.loop-done.invariant.written c.in_ok-done.ensures.piece;
}

pub returns-in_err-done-clause-count : goal.returns-in_err-done-clause-count
returns-in_err-done-clause-count g c = GoesOn-then c.loop-done.invariant.quiet c.put.ensures.count

pub returns-clause-count : goal.returns-clause-count
returns-clause-count g c = GoesOn-same c.loop-done.invariant.quiet
