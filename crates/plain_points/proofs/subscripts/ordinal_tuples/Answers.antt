use Rattle.std.proofs.Common.{◌∙◌, sym}
use Rattle.plain_points.proofs.TupleLaws.{no_tuples, listed_none, listed_all, listed_more}
use Rattle.plain_points.proofs.TupleLaws.{listed_less}
use Rattle.plain_points.proofs.subscripts.ordinal_tuples.Goals as goal

pub returns-then-not-have_ordinals : goal.returns-then-not-have_ordinals
returns-then-not-have_ordinals c =
    c.new-tuples.ensures ∙ sym (no_tuples c.args.kinds.now
    (sym c.have_ordinals.ensures ∙ c.if-not-have_ordinals.true))

pub next-init : goal.next-init
next-init c =
    listed_none c.args.kinds.now c.new-tuples.result c.in_ok-tuple.tuple c.new-tuples.ensures
    c.in_ok-tuple.ensures (sym c.have_ordinals.ensures ∙ c.if-not-have_ordinals.false)

pub returns-then-not-go_on : goal.returns-then-not-go_on
returns-then-not-go_on c =
    listed_all c.args.kinds.now c.next.tuples c.push.new.self c.next.tuple c.in_ok-twin.field-0
    c.next.invariant c.in_ok-push.ensures.ok c.in_ok-twin.ensures
    (c.go_on.ensures.last c.if-not-go_on.true)

pub next-smaller : goal.next-smaller
next-smaller c =
    listed_less c.args.kinds.now c.next.tuples c.push.new.self c.next.tuple c.in_ok-twin.field-0
    c.next.invariant c.in_ok-push.ensures.ok

pub next-preserved : goal.next-preserved
next-preserved c =
    listed_more c.args.kinds.now c.next.tuples c.push.new.self c.next.tuple c.in_ok-twin.field-0
    c.next.invariant c.in_ok-push.ensures.ok c.in_ok-twin.ensures c.go_on.new.tuple
    (c.go_on.ensures.next c.if-not-go_on.false) (c.go_on.ensures.long ∙ c.next.invariant.long)
