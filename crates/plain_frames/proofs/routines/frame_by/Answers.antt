use Rattle.std.proofs.Common.{◌∙◌, ap, ◌+◌, drop, slice_index_or}
use Rattle.std.proofs.lemmas.Option.{slice_get-get_or}
use Rattle.std.proofs.lemmas.Result.{err_from_is_err_and}
use Rattle.plain_declared.specs.mean_blocks.GlobalSituation.{Frame}
use Rattle.plain_declared.specs.mean_blocks.FunctionCalls.{frame_of}
use Rattle.plain_frames.proofs.RoutineSteps.{after, after_none, frame_whole}
use Rattle.plain_frames.proofs.RoutineSteps.{one_name_more, stops_at_name}
use Rattle.plain_frames.proofs.routines.frame_by.Goals as goal

pub loop-i-init : goal.loop-i-init
loop-i-init c =
    let whole = frame_of c.args.outline.now c.args.places.now c.args.slots.now in
    ap (λ (f : Frame). after f whole) c.in_ok-frame.ensures ∙ after_none whole

pub loop-i-preserved : goal.loop-i-preserved
loop-i-preserved c =
    let o = c.args.outline.now in
    let ps = c.args.places.now in
    let xs = c.args.slots.now in
    let i = c.loop-i.i in
    ap (λ (f : Frame). after f (frame_of o (drop (i + 1) ps) (drop (i + 1) xs)))
    c.in_ok-push.ensures.ok
    ∙ one_name_more o ps xs c.loop-i.frame i (slice_index_or ps i 0) _ _ c.in_ok-slot.slot
    (slice_get-get_or ps i 0 c.loop-i-test.true) c.kind_at.ensures c.get.ensures
    c.in_ok-slot.ensures
    ∙ c.loop-i.invariant

pub returns-in_err-slot : goal.returns-in_err-slot
returns-in_err-slot c =
    let ps = c.args.places.now in
    let i = c.loop-i.i in
    let p = err_from_is_err_and c.from_residual-in_err-slot.result
    c.from_residual-in_err-slot.ensures.1 in
    rw (p.1, p.2) (stops_at_name c.args.outline.now ps c.args.slots.now c.loop-i.frame i
    (slice_index_or ps i 0) _ _ _ _ (slice_get-get_or ps i 0 c.loop-i-test.true)
    c.kind_at.ensures c.get.ensures c.loop-i.invariant c.in_err-slot.ensures)

pub returns : goal.returns
returns c =
    frame_whole c.args.outline.now c.args.places.now c.args.slots.now c.loop-i.frame c.loop-i.i _
    c.loop-i-test.false c.loop-i.invariant
