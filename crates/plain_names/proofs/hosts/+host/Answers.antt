use Rattle.std.proofs.Common.{◌≡◌, sym, ap, ◌∙◌, List}
use Rattle.est_syntax.specs.declared.expression.Expr.{Expr}
use Rattle.mean_blocks.specs.rule_scope.Uses.{meaning}
use Rattle.mean_blocks.specs.OperandHosts.{call_host}
use Rattle.mean_blocks.proofs.HostLayers.{first_host, call_at}
use Rattle.plain_names.proofs.hosts.+host.Goals as goal

pub factor_host-returns-in-Call : goal.factor_host-returns-in-Call
factor_host-returns-in-Call κs c =
    let o = c.args.text.now.outline in
    c.call_host.ensures
    ∙ ap (λ (es : List Expr). call_host o (meaning o c.in-Call.name) (first_host o es))
    c.as_slice-in-Call.ensures
    ∙ sym (call_at o c.args.factor.now c.in-Call.name c.in-Call.arguments c.in-Call.place
    c.in-Call.is)
