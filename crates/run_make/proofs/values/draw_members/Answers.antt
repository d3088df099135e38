use Rattle.std.proofs.Common.{◌∙◌, ◌+ℤ◌, pos, ap, rules, w32, ℤ}
use Rattle.std.proofs.lemmas.Int.{to_z-of_z}
use mir.Val.{SFits, to_z, of_z}
use Rattle.run_make.specs.Words.{stream_at}
use Rattle.run_make.proofs.Drawing.{members_none, member_drawn, no_member_drawn}
use Rattle.run_make.proofs.values.draw_members.Goals.{then-word-eq1+in_ok-push, else-word-eq1}
use Rattle.run_make.proofs.values.draw_members.Goals as goal

pub loop-distance-init : goal.loop-distance-init
loop-distance-init c =
    members_none c.args.base.now (stream_at c.args.rng.now) c.new-members.result
    c.new-members.ensures

pub loop-distance-preserved : goal.loop-distance-preserved
loop-distance-preserved c =
    let base = c.args.base.now in
    let s = stream_at c.args.rng.now in
    let t = stream_at c.loop-distance.rng in
    let u = stream_at c.draw-word.new.rng in
    let n = c.loop-distance.distance in
    elim c.if-word-eq1.branch [
      | then-word-eq1+in_ok-push w ↦
          (let f : SFits w32 c.first_ordinal-first.result = search rules in
          let h : SFits w32 w.ordinal_at.result = search rules in
          let first = to_z-of_z w32 c.first_ordinal-first.result f
          ∙ c.first_ordinal-first.ensures in
          member_drawn base n s t u c.loop-distance.members c.if-word-eq1.members c.draw-word.result
          (to_z w32 (of_z w32 w.ordinal_at.result)) c.loop-distance.invariant c.draw-word.ensures
          w.if-word-eq1.true
          (to_z-of_z w32 w.ordinal_at.result h ∙ w.ordinal_at.ensures
          ∙ ap (λ (z : ℤ). z +ℤ pos n) first)
          (w.members-is ∙ w.in_ok-push.ensures.ok))
      | else-word-eq1 w ↦
          no_member_drawn base n s t u c.loop-distance.members c.if-word-eq1.members
          c.draw-word.result c.loop-distance.invariant c.draw-word.ensures w.if-word-eq1.false
          w.members-is
    ]
