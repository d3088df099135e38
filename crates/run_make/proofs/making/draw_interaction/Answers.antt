use Rattle.std.proofs.Common.{◌%◌, ◌/◌, length, get_or}
use Rattle.run_make.specs.declared.arrivals.Arrival.{Arrival}
use Rattle.run_make.specs.Words.{stream_at}
use Rattle.run_make.proofs.Happening.{chosen_arrival, port_there, signal_there, interaction_drawn}
use Rattle.run_make.proofs.making.draw_interaction.Goals as goal

pub unreachable-requires : goal.unreachable-requires
unreachable-requires c =
    let list = c.args.recipe.now.arrivals.now in
    let w = c.args.word in
    let d : Arrival = record { port = 0; signal = 0 } in
    port_there c.args.recipe.now.ports.now list w (get_or list (w / 2 % length list) d)
    c.requires.arrivals c.requires.asks (chosen_arrival list w d c.requires.asks)
    c.in-None.ensures

pub unreachable-requires-in-None-get : goal.unreachable-requires-in-None-get
unreachable-requires-in-None-get c =
    let list = c.args.recipe.now.arrivals.now in
    let w = c.args.word in
    let d : Arrival = record { port = 0; signal = 0 } in
    signal_there c.args.recipe.now.ports.now list w (get_or list (w / 2 % length list) d)
    c.requires.arrivals c.requires.asks (chosen_arrival list w d c.requires.asks)
    c.in-Some.signals.now c.in-Some.ensures c.in-None-get.ensures

pub returns : goal.returns
returns c =
    let list = c.args.recipe.now.arrivals.now in
    let w = c.args.word in
    let d : Arrival = record { port = 0; signal = 0 } in
    interaction_drawn c.args.recipe.now.ports.now list w (get_or list (w / 2 % length list) d)
    c.requires.arrivals c.requires.asks (chosen_arrival list w d c.requires.asks)
    c.in-Some.signals.now c.in-Some.ensures c.in-Some-get.found.now (stream_at c.args.rng.now)
    (stream_at c.draw_values.new.rng) c.in_ok-values-in-Some-get.values c.in-Some-get.ensures
    c.in_ok-values-in-Some-get.ensures
