use Rattle.std.proofs.Common.{refl, sym, ◌∙◌, length, bytes_eq}
use Rattle.std.proofs.lemmas.Option.{slice_get_read}
use Rattle.est_trace.specs.PortNames.{signal_name}
use Rattle.est_trace.proofs.Firsts.{none_of, number_is, no_number}
use Rattle.est_trace.proofs.hints.first_named.Goals as goal

pub returns-then-is_named : goal.returns-then-is_named
returns-then-is_named c =
    let xs = c.args.signals.now in
    let x = c.index-signals-number.result in
    let e = slice_get_read xs (length xs) c.loop-number.number x refl c.loop-number-test.true
    c.index-signals-number.is in
    number_is signal_name xs c.args.name.now c.loop-number.number x e (sym c.is_named.ensures
    ∙ c.if-is_named.true)

pub returns : goal.returns
returns c =
    let xs = c.args.signals.now in
    no_number signal_name xs c.args.name.now
    (none_of (λ x. bytes_eq (signal_name x) c.args.name.now) xs c.loop-number.number
    c.loop-number-test.false c.loop-number.invariant)
