use Rattle.est_print.proofs.Printed.{finished}
use Rattle.est_print.proofs.print.print_spec.Goals as goal

pub returns : goal.returns
returns c = finished (λ t. t.items) c.args.spec.now c.new-printer.result c.specification.new.printer
    c.finish.result c.requires c.new-printer.ensures c.specification.ensures c.finish.ensures
