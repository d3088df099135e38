use Rattle.std.proofs.Common.{sym, subst}
use Rattle.text_values.specs.TraceGrammar as grammar
use Rattle.text_values.specs.ValueReading.{Reads}
use Rattle.text_values.specs.ValueShapes.{ShowsSet}
use Rattle.text_values.proofs.SetParts.{empty_set, full_set}
use Rattle.text_values.proofs.sets.set.Goals as goal

pub returns-then-sees : goal.returns-then-sees
returns-then-sees c =
    let base = c.args.base.now in
    subst (λ zs. Reads (grammar.set base) (λ t. ShowsSet base zs t) c.args.reader.now
    c.symbol-then-sees.new.self) (sym c.new.ensures)
    (empty_set base c.symbol.ensures c.if-sees.ensures c.symbol-then-sees.ensures)

pub returns : goal.returns
returns c = full_set c.args.base.now c.members-found.result c.symbol.ensures c.if-sees.ensures
    c.members-found.ensures c.symbol-2.ensures
