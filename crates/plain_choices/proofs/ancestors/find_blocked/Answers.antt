use Rattle.std.proofs.Common.{◌≤◌, ◌∙◌, sym, ap, subst, inl, inr, length}
use Rattle.plain_guards.specs.plain_systems.HeldSystems.{situation_of}
use Rattle.plain_choices.specs.inside.SystemOffers.{AreBlockedBelow}
use Rattle.plain_choices.proofs.Blocking.{row_read, row_at, blocked_first, blocked_at}
use Rattle.plain_choices.proofs.Blocking.{blocked_next, blocked_end}
use Rattle.plain_choices.proofs.Rows.{from_length}
use Rattle.plain_choices.proofs.ancestors.find_blocked.Goals.{then-is_blocked+in_ok-push}
use Rattle.plain_choices.proofs.ancestors.find_blocked.Goals.{else-is_blocked}
use Rattle.plain_choices.proofs.ancestors.find_blocked.Goals as goal

pub loop-row-init : goal.loop-row-init
loop-row-init c = blocked_first (situation_of c.args.system.now) c.args.dues.now
    c.args.blocked.now.items c.requires.numbered c.requires.empty

pub is_blocked-requires-clause-row : goal.is_blocked-requires-clause-row
is_blocked-requires-clause-row c = row_at (situation_of c.args.system.now) c.args.dues.now
    c.loop-row.row-index c.loop-row.blocked.items c.loop-row.invariant c.get-row.result.now
    (row_read c.args.system.now.rows c.as_slice-row-items.result.now c.get.result.now
    c.loop-row.row-index c.get-row.result.now c.row-item.result c.as_slice-row-items.ensures
    c.get.ensures c.loop-row-test.true c.row-item.is c.get-row.ensures)

pub is_blocked-requires-clause-blocked : goal.is_blocked-requires-clause-blocked
is_blocked-requires-clause-blocked c = subst
    (AreBlockedBelow (situation_of c.args.system.now) c.args.dues.now c.get-row.result.now.number)
    (sym c.as_slice.ensures.value)
    (blocked_at (situation_of c.args.system.now) c.args.dues.now c.loop-row.row-index
    c.loop-row.blocked.items c.loop-row.invariant c.get-row.result.now
    (row_read c.args.system.now.rows c.as_slice-row-items.result.now c.get.result.now
    c.loop-row.row-index c.get-row.result.now c.row-item.result c.as_slice-row-items.ensures
    c.get.ensures c.loop-row-test.true c.row-item.is c.get-row.ensures))

pub loop-row-preserved : goal.loop-row-preserved
loop-row-preserved c = blocked_next (situation_of c.args.system.now) c.args.dues.now
    c.loop-row.row-index c.loop-row.blocked.items c.loop-row.invariant c.get-row.result.now
    (row_read c.args.system.now.rows c.as_slice-row-items.result.now c.get.result.now
    c.loop-row.row-index c.get-row.result.now c.row-item.result c.as_slice-row-items.ensures
    c.get.ensures c.loop-row-test.true c.row-item.is c.get-row.ensures)
    c.is_blocked.result c.if-is_blocked.blocked.items c.is_blocked.ensures
    (elim c.if-is_blocked.branch [
      | then-is_blocked+in_ok-push w ↦ inl (
        w.if-is_blocked.true,
        ap (λ v. v.items) w.blocked-is ∙ w.in_ok-push.ensures.items,
      )
      | else-is_blocked w ↦ inr (w.if-is_blocked.false, ap (λ v. v.items) w.blocked-is)
    ])

pub returns : goal.returns
returns c = blocked_end (situation_of c.args.system.now) c.args.dues.now c.loop-row.row-index
    c.loop-row.blocked.items c.loop-row.invariant
    (from_length c.args.system.now.rows c.loop-row.row-index
    (subst (λ rs. length rs ≤ c.loop-row.row-index)
    (c.as_slice-row-items.ensures ∙ c.get.ensures) c.loop-row-test.false))
