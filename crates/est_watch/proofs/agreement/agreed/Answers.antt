use Rattle.std.proofs.Common.{◌≡◌, ◌+◌, true, get_or, map, inl, inr, sym, ap, ◌∙◌, arith}
use Rattle.est_meaning.specs.declared.trace.Expected.TheVariants.{Known}
use Rattle.est_search.proofs.AgreeForLaws.{agreed_more, agreed_all, agreed_so_far}
use Rattle.est_watch.proofs.CallLaws.{get_known}
use Rattle.est_watch.proofs.agreement.agreed.Goals as goal
use Rattle.mean_watch.proofs.Growing.{known_length}

pub loop-event-preserved : goal.loop-event-preserved
loop-event-preserved c =
    let given = c.args.given.now in
    let events = c.args.events.now in
    let at = c.loop-event.many in
    let so_far = c.loop-event.invariant in
    let counted = so_far.counted in
    let short = c.if-from-many.false in
    let more = c.loop-event-test.true in
    let x = c.index-given-from.result in
    let e = c.event-item.result in
    let n = known_length given in
    record {
      counted = omega arith;
      within = omega arith;
      agree = agreed_more (map Known given) events c.args.from at (Known x) e (omega arith)
          (omega arith)
          (get_known given (c.args.from + at) x (omega arith) (sym c.index-given-from.is))
          (ap (λ n. get_or events n e) counted ∙ sym c.event-item.is) so_far.agree
          (c.is.ensures.0 c.if-not-is.false);
    }

pub returns-then-not-is : goal.returns-then-not-is
returns-then-not-is c =
    let given = c.args.given.now in
    let events = c.args.events.now in
    let at = c.loop-event.many in
    let so_far = c.loop-event.invariant in
    let counted = so_far.counted in
    let short = c.if-from-many.false in
    let more = c.loop-event-test.true in
    let x = c.index-given-from.result in
    let e = c.event-item.result in
    let n = known_length given in
    agreed_so_far (map Known given) events c.args.from at (omega arith) (omega arith) so_far.agree
    (Known x) e (omega arith) (omega arith)
    (get_known given (c.args.from + at) x (omega arith) (sym c.index-given-from.is))
    (ap (λ n. get_or events n e) counted ∙ sym c.event-item.is)
    (λ a. (let yes : c.is.result ≡ true = c.is.ensures.1 a in
    let no = c.if-not-is.true in cc))

pub returns-then-from-many : goal.returns-then-from-many
returns-then-from-many c =
    let given = c.args.given.now in
    let so_far = c.loop-event.invariant in
    let counted = so_far.counted in
    let more = c.loop-event-test.true in
    let past = c.if-from-many.true in
    let n = known_length given in
    agreed_all (map Known given) c.args.events.now c.args.from c.loop-event.many (omega arith)
    (omega arith) so_far.agree (inl (omega arith))

pub returns : goal.returns
returns c =
    let given = c.args.given.now in
    let so_far = c.loop-event.invariant in
    let counted = so_far.counted in
    let end = c.loop-event-test.false in
    let last = c.loop-event.auto.event-index-end in
    let n = known_length given in
    agreed_all (map Known given) c.args.events.now c.args.from c.loop-event.many (omega arith)
    (omega arith) so_far.agree (inr (omega arith))
