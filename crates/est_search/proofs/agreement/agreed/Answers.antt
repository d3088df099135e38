use Rattle.std.proofs.Common.{◌≡◌, true, get_or, inr, sym, ap, ◌∙◌, arith}
use Rattle.est_search.proofs.AgreeForLaws.{agreed_more, agreed_all, agreed_so_far}
use Rattle.est_search.proofs.agreement.agreed.Goals as goal

pub loop-event-preserved : goal.loop-event-preserved
loop-event-preserved c =
    let trace = c.args.trace.now in
    let events = c.args.events.now in
    let at = c.loop-event.many in
    let so_far = c.loop-event.invariant in
    let counted = so_far.counted in
    let short = c.if-from-many.false in
    let more = c.loop-event-test.true in
    let x = c.index-trace-from.result in
    let e = c.event-item.result in
    record {
      counted = omega arith;
      within = omega arith;
      agree = agreed_more trace events c.args.from at x e (omega arith) (omega arith)
          (sym c.index-trace-from.is)
          (ap (λ n. get_or events n e) counted ∙ sym c.event-item.is) so_far.agree
          (c.agrees.ensures.0 c.if-not-agrees.false);
    }

pub returns-then-not-agrees : goal.returns-then-not-agrees
returns-then-not-agrees c =
    let trace = c.args.trace.now in
    let events = c.args.events.now in
    let at = c.loop-event.many in
    let so_far = c.loop-event.invariant in
    let counted = so_far.counted in
    let short = c.if-from-many.false in
    let more = c.loop-event-test.true in
    let x = c.index-trace-from.result in
    let e = c.event-item.result in
    agreed_so_far trace events c.args.from at (omega arith) so_far.within so_far.agree x e
    (omega arith) (omega arith) (sym c.index-trace-from.is)
    (ap (λ n. get_or events n e) counted ∙ sym c.event-item.is)
    (λ a. (let yes : c.agrees.result ≡ true = c.agrees.ensures.1 a in
    let no = c.if-not-agrees.true in cc))

pub returns : goal.returns
returns c =
    let so_far = c.loop-event.invariant in
    let counted = so_far.counted in
    let end = c.loop-event-test.false in
    let last = c.loop-event.auto.event-index-end in
    agreed_all c.args.trace.now c.args.events.now c.args.from c.loop-event.many (omega arith)
    so_far.within so_far.agree (inr (omega arith))
