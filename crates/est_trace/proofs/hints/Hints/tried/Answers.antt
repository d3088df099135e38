use Rattle.std.proofs.Common.{get_or, refl, sym, ◌∙◌, length}
use Rattle.std.proofs.lemmas.Option.{slice_get_read}
use Rattle.est_trace.specs.PortNames.{signal_name}
use Rattle.est_trace.proofs.Firsts.{number_is}
use Rattle.est_trace.proofs.hints.Hints.tried.Goals as goal

pub returns-then-is_named : goal.returns-then-is_named
returns-then-is_named c =
    let xs = c.args.signals.now in
    let i = get_or c.deref-number-items.result.now c.loop-number.number-index 0 in
    let x = c.index-signals-number.result in
    number_is signal_name xs c.args.name.now i x (slice_get_read xs (length xs) i x refl
    c.if-number-signals.true c.index-signals-number.is) (sym c.is_named.ensures
    ∙ c.if-is_named.true)
