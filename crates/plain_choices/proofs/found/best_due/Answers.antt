use Rattle.std.proofs.Common.{◌+◌, sym, subst, ◌∙◌, arith, drop}
use Rattle.plain_choices.proofs.Members.{at_number}
use Rattle.plain_choices.proofs.Ranks.{IsBestBut, best_ends, best_takes, best_stays}
use Rattle.plain_choices.proofs.Rows.{from_length}
use Rattle.plain_choices.proofs.Surveys.{not_both}
use Rattle.plain_choices.proofs.found.best_due.Goals as goal
use Rattle.plain_choices.proofs.found.best_due.Goals.{then-offer+then-is_better, else-offer}
use Rattle.plain_choices.proofs.found.best_due.Goals.{else-offer-via-then-offer+else-is_better}
use Rattle.plain_choices.proofs.found.best_due.Goals.{else-offer-via-else-offer}

pub loop-offer-preserved : goal.loop-offer-preserved
loop-offer-preserved c = elim c.if-offer.branch [
  | then-offer+then-is_better w ↦ subst (IsBestBut c.args.offers.now
      (drop (c.loop-offer.offer-index + 1) c.args.offers.now)) (sym w.best-is)
      (best_takes c.args.offers.now c.loop-offer.offer-index _ c.loop-offer-test.true
      (at_number c.args.offers.now c.loop-offer.offer-index _ c.loop-offer-test.true)
      c.loop-offer.best c.loop-offer.invariant w.if-offer.true
      (sym w.is_better.ensures ∙ w.if-is_better.true))
  | else-offer w ↦ subst (IsBestBut c.args.offers.now
      (drop (c.loop-offer.offer-index + 1) c.args.offers.now)) (sym w.best-is)
      (elim w.else-offer.branch [
        | else-offer-via-then-offer+else-is_better k ↦ best_stays c.args.offers.now
            c.loop-offer.offer-index _ c.loop-offer-test.true
            (at_number c.args.offers.now c.loop-offer.offer-index _ c.loop-offer-test.true)
            c.loop-offer.best c.loop-offer.invariant
            (λ e. sym k.is_better.ensures ∙ k.if-is_better.false)
        | else-offer-via-else-offer k ↦ best_stays c.args.offers.now
            c.loop-offer.offer-index _ c.loop-offer-test.true
            (at_number c.args.offers.now c.loop-offer.offer-index _ c.loop-offer-test.true)
            c.loop-offer.best c.loop-offer.invariant
            (λ e. absurd (not_both _ e k.if-offer.false))
      ])
]

pub returns : goal.returns
returns c = best_ends c.args.offers.now c.loop-offer.best
    (subst (λ left. IsBestBut c.args.offers.now left c.loop-offer.best)
    (from_length c.args.offers.now c.loop-offer.offer-index (omega arith)) c.loop-offer.invariant)
