use Rattle.std.proofs.Common.{sym, ◌∙◌, add-one}
use Rattle.est_syntax.specs.Names.{is_name}
use Rattle.rule_scope.proofs.NameRows.{lookup_more, lookup_here}
use Rattle.rule_scope.proofs.predeclared.name_in.Goals as goal

pub returns-then-eq : goal.returns-then-eq
returns-then-eq c =
    let here = lookup_here (is_name c.args.bytes.now) c.args.names.now c.loop-row.row-index _
    c.loop-row-test.true (sym c.if-eq.ensures) in
    sym here ∙ c.loop-row.invariant

pub loop-row-preserved : goal.loop-row-preserved
loop-row-preserved c =
    let more = lookup_more (is_name c.args.bytes.now) c.args.names.now c.loop-row.row-index _
    c.loop-row-test.true (sym c.if-eq.ensures) in
    rw add-one (more ∙ c.loop-row.invariant)
