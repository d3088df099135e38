use Rattle.std.proofs.Common.{arith}
use Rattle.plain_transitions.proofs.TableLaws.{made_table}
use Rattle.plain_transitions.proofs.table.Table.new.Goals as goal

pub invariant_of-result : goal.invariant_of-result
invariant_of-result c = made_table c.args.text.now
    (record { spec = c.spec.result.now; outline = c.outline.result.now }) c.args.place
    c.in_ok-written.written.items c.as_slice.result.now c.as_slice-2.result.now
    c.in_ok-fitting.fitting c.are_timed-timed.result
    (λ i. record { spec = c.spec.ensures i; outline = c.outline.ensures i })
    c.in_ok-written.ensures (omega (arith, c.if-len.false, c.len.ensures))
    c.as_slice.ensures.value c.in_ok-fitting.ensures c.as_slice-2.ensures.value
    c.are_timed-timed.ensures
