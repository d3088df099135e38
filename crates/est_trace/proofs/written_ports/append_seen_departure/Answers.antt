use Rattle.text_values.specs.WrittenSeen.{seen_text}
use Rattle.est_trace.proofs.WrittenPorts.{both_added, text_split}
use Rattle.est_trace.proofs.written_ports.append_seen_departure.Goals as goal

pub returns : goal.returns
returns c =
    both_added c.args.text.now.items _ _ _ _ _ _ c.in_ok-append_signal.ensures
    c.append_seens.ensures
    (text_split seen_text c.args.seen.now c.args.ports.now c.args.port c.args.signal _ _
    c.signals_at-signals.ensures c.parameters_at-kinds.ensures)
