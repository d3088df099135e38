use Rattle.std.proofs.Common.{◌≡◌, ◌<◌, List, length, get_or, rules, ap, subst, ◌∙◌, w32}
use Rattle.std.proofs.lemmas.Int.{to_z-of_z}
use mir.Val.{SFits}
use Rattle.est_seen.specs.declared.seen.Seen.{Seen, out-Seen}
use Rattle.est_seen.specs.declared.seen.Seen.TheVariants as seen
use Rattle.est_trace.specs.inside.Wholes.{IsWhole}
use Rattle.est_trace.proofs.SeenWholes.{any_whole, undefined_whole, ordinal_whole, set_whole}
use Rattle.est_trace.proofs.SeenWholes.{group_whole, none_yet, next_whole, not_whole}
use Rattle.est_trace.proofs.wholes.+whole.Goals as goal

pub whole-returns-in-Any : goal.whole-returns-in-Any
whole-returns-in-Any t c = any_whole c.args.seen.now (ap out-Seen c.in-Any.is ∙ seen.outs-Any)

pub whole-returns-in-Undefined : goal.whole-returns-in-Undefined
whole-returns-in-Undefined t c =
    undefined_whole c.args.seen.now (ap out-Seen c.in-Undefined.is ∙ seen.outs-Undefined)

pub whole-returns-in-Ordinal : goal.whole-returns-in-Ordinal
whole-returns-in-Ordinal t c =
    let f : SFits w32 c.in-Ordinal.ordinal = search rules in
    ordinal_whole c.args.seen.now c.in-Ordinal.ordinal _
    (ap out-Seen c.in-Ordinal.is ∙ seen.outs-Ordinal c.in-Ordinal.ordinal)
    (to_z-of_z w32 c.in-Ordinal.ordinal f)

pub whole-returns-in_ok-members-in-Set : goal.whole-returns-in_ok-members-in-Set
whole-returns-in_ok-members-in-Set t c = set_whole c.args.seen.now c.in-Set.members
    c.in_ok-members-in-Set.members (ap out-Seen c.in-Set.is ∙ seen.outs-Set c.in-Set.members)
    c.in_ok-members-in-Set.ensures

pub whole-returns-in_ok-values-in-Group : goal.whole-returns-in_ok-values-in-Group
whole-returns-in_ok-values-in-Group t c = group_whole c.args.seen.now c.in-Group.parts
    c.in_ok-values-in-Group.values c.group.result
    (ap out-Seen c.in-Group.is ∙ seen.outs-Group c.in-Group.parts)
    c.in_ok-values-in-Group.ensures c.group.ensures

pub whole_values-loop-seen-init : goal.whole_values-loop-seen-init
whole_values-loop-seen-init t c = none_yet c.args.seens.now c.in_ok-values.values
    c.in_ok-values.ensures

pub whole_values-returns-in-None : goal.whole_values-returns-in-None
whole_values-returns-in-None t c =
    let same = c.as_slice-seen-items.ensures in
    not_whole c.args.seens.now c.loop-seen.seen-index c.seen-item.result
    (subst (λ (xs : List Seen). c.loop-seen.seen-index < length xs) same c.loop-seen-test.true)
    (subst (λ (xs : List Seen). c.seen-item.result
    ≡ get_or xs c.loop-seen.seen-index c.seen-item.result) same c.seen-item.is)
    (subst (IsWhole c.seen-item.result) c.in-None.is c.in_ok-whole.ensures)

pub whole_values-loop-seen-preserved : goal.whole_values-loop-seen-preserved
whole_values-loop-seen-preserved t c =
    let same = c.as_slice-seen-items.ensures in
    next_whole c.args.seens.now c.loop-seen.seen-index c.seen-item.result c.in-Some.value
    c.loop-seen.values c.push.new.self
    (subst (λ (xs : List Seen). c.loop-seen.seen-index < length xs) same c.loop-seen-test.true)
    (subst (λ (xs : List Seen). c.seen-item.result
    ≡ get_or xs c.loop-seen.seen-index c.seen-item.result) same c.seen-item.is)
    c.loop-seen.invariant (subst (IsWhole c.seen-item.result) c.in-Some.is c.in_ok-whole.ensures)
    c.in_ok-push-in-Some.ensures.ok
