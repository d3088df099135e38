use Rattle.std.proofs.Common.{◌∙◌, [], subst, length}
use Rattle.text_reader.specs.Moving.{NoneSeen}
use Rattle.est_trace.specs.inside.GrowingLists.{IsGrown}
use Rattle.est_trace.specs.inside.ListReading.{line_starts}
use Rattle.est_trace.proofs.GrowingLists.{counted}
use Rattle.est_trace.proofs.LineLoop.{one_seen_well, no_lines, one_line, all_lines}
use Rattle.est_trace.proofs.lists.lines.Goals as goal

pub loop-at-init : goal.loop-at-init
loop-at-init c =
    let ports = c.args.directory.now.ports.now in
    no_lines ports c.new-found.result c.new-found.ensures.still
    (λ w. subst (λ n. IsGrown n c.new-found.result [])
    (c.count.ensures ∙ counted (length ports) c.requires.few) (c.new-found.ensures.grown w))

pub loop-at-preserved : goal.loop-at-preserved
loop-at-preserved c = one_line c.args.directory.now.ports.now c.loop-at.at c.line-at.result
    c.loop-at.found c.line-at.new.found
    (one_seen_well c.loop-at.reader (line_starts c.is_some.result) c.loop-at-test.ensures)
    c.loop-at.invariant c.line-at.ensures

pub returns : goal.returns
returns c = all_lines c.args.directory.now.ports.now c.loop-at.at c.loop-at.found c.ended.result
    c.loop-at.invariant
    (subst (λ b. NoneSeen c.loop-at.reader (line_starts b)) c.is_some.ensures
    c.loop-at-test.ensures) c.close.ensures c.ended.ensures.still c.ended.ensures.lists
