use Rattle.std.proofs.Common.{sym, subst}
use Rattle.est_trace.specs.PortNames.{GoodPorts}
use Rattle.est_trace.proofs.AllowedLists.{text_allowed}
use Rattle.est_trace.proofs.GoodPorts.{good_ports}
use Rattle.est_lexer.specs.Offsets.{text_of, tokens_of}
use Rattle.est_trace.proofs.lists.read_ports.Goals as goal

pub read_lists-requires : goal.read_lists-requires
read_lists-requires c = subst GoodPorts (sym c.ports.ensures) (good_ports c.args.checked.now)

pub returns-clause-allowed : goal.returns-clause-allowed
returns-clause-allowed c = text_allowed c.args.checked.now c.ports.result.now
    (text_of c.args.tokens.now) (tokens_of c.args.tokens.now) c.read_lists.result c.ports.ensures
    (subst GoodPorts (sym c.ports.ensures) (good_ports c.args.checked.now)) c.read_lists.ensures
