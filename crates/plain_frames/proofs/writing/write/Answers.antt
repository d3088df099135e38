use Rattle.std.proofs.Common.{sym}
use Rattle.std.proofs.lemmas.Result.{err_from_is_err_and}
use Rattle.plain_frames.proofs.WrittenFrames.{nothing_written, stopped_leaves, written_at}
use Rattle.plain_frames.proofs.writing.write.Goals as goal

pub returns-in_default : goal.returns-in_default
returns-in_default c =
    nothing_written c.args.declared c.args.path.now c.args.part c.args.frame.now
    (sym c.in_default.ensures)

pub returns-in_err-value : goal.returns-in_err-value
returns-in_err-value c =
    let p = err_from_is_err_and c.from_residual-in_err-value.result
    c.from_residual-in_err-value.ensures.1 in
    rw (p.1, p.2) (stopped_leaves c.args.declared c.args.path.now
    c.args.part c.args.frame.now c.in-Some.at c.in_ok-old.old _ _ (sym c.in-Some.ensures)
    c.in_ok-old.ensures.old c.in_err-value.ensures)

pub returns : goal.returns
returns c =
    written_at c.args.declared c.args.path.now c.args.part c.args.frame.now c.exchange.new.self
    c.set.new.self c.in-Some.at c.in_ok-old.old _ c.in_ok-value.value (sym c.in-Some.ensures)
    c.in_ok-old.ensures.old c.in_ok-value.ensures c.in_ok-old.ensures.ok c.in_ok-set.ensures.ok
