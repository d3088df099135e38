use Rattle.std.proofs.Common.{sym, ap, ◌∙◌, ◌+◌, ◌++◌, drop, slice_index_or}
use Rattle.std.proofs.lemmas.Option.{slice_get-get_or}
use Rattle.est_values.proofs.QueueLaws.{none_taken}
use Rattle.est_meaning.specs.mean_blocks.GlobalSituation.{Frame}
use Rattle.est_meaning.specs.TransitionChoices.{bound_all}
use Rattle.plain_clauses.proofs.ArrivalLaws.{one_name_more, values_end}
use Rattle.plain_clauses.proofs.arrivals.bound_all.Goals as goal

pub returns-in_default : goal.returns-in_default
returns-in_default c =
    sym (values_end c.args.places.now c.args.values.now c.loop-i.frame c.loop-i.i
    (none_taken c.args.values.now c.loop-i.i (sym c.in_default.ensures)))
    ∙ c.loop-i.invariant

pub loop-i-preserved : goal.loop-i-preserved
loop-i-preserved c =
    let ps = c.args.places.now in
    let vs = c.args.values.now in
    let i = c.loop-i.i in
    ap (λ (f : Frame). f ++ bound_all (drop (i + 1) ps) (drop (i + 1) vs))
    c.in_ok-push.ensures.ok
    ∙ one_name_more ps vs c.loop-i.frame i (slice_index_or ps i 0) c.in-Some.value.now
    c.in_ok-binding.binding (slice_get-get_or ps i 0 c.loop-i-test.true) (sym c.in-Some.ensures)
    c.in_ok-binding.ensures
    ∙ c.loop-i.invariant
