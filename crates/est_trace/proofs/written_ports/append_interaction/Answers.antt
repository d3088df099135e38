use Rattle.text_values.specs.WrittenValues.{value_text}
use Rattle.est_trace.proofs.WrittenPorts.{both_added, text_split}
use Rattle.est_trace.proofs.written_ports.append_interaction.Goals as goal

pub returns : goal.returns
returns c =
    let x = c.args.interaction.now in
    both_added c.args.text.now.items _ _ _ _ _ _ c.in_ok-append_signal.ensures
    c.append_values.ensures
    (text_split value_text x.values c.args.ports.now x.port x.signal _ _
    c.signals_at-signals.ensures c.parameters_at-kinds.ensures)
