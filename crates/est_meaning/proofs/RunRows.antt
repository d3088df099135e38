-- The instances and connections of the situations of a run.
use Rattle.std.proofs.Common.{sym, subst, [], ◌∷◌}
use Rattle.mean_blocks.specs.TextByPlace.{text_of}
use Rattle.est_meaning.proofs.Outside.{events_are_outside}
use Rattle.est_meaning.proofs.Steps.{firings_are_orderly, starts_begin_in_order}
use Rattle.est_meaning.specs.declared.run.Move.TheVariants.{Take, Fire}
use Rattle.est_meaning.specs.Run.{Place}
use Rattle.est_meaning.specs.RunLaws.{IsInOrder, RowsAreInOrder}

pub rows_in_order : RowsAreInOrder
rows_in_order c [] p begun r =
    let start = starts_begin_in_order c.limit (text_of c.spec) c.start c.start_outs begun in
    subst (λ (w : Place). IsInOrder w.situation) (sym r)
    (record { numbers = start.numbers; connections = start.connections })
rows_in_order c (Take ∷ h) p begun r =
    let q = r.0 in
    let t = r.2 in
    let before = rows_in_order c h q begun r.1 in
    subst (λ (w : Place). IsInOrder w.situation) (sym t.leads) (record {
      numbers = events_are_outside.numbers (text_of c.spec) q.situation t.event before.numbers;
      connections =
          events_are_outside.connections (text_of c.spec) q.situation t.event before.connections;
    })
rows_in_order c (Fire f ∷ h) p begun r =
    let q = r.0 in
    let t = r.2 in
    let before = rows_in_order c h q begun r.1 in
    let over = firings_are_orderly.goes_over c.limit (text_of c.spec) q.situation t.situation f
    t.outs t.step.done in
    subst (λ (w : Place). IsInOrder w.situation) (sym t.leads) (record {
      numbers = over.numbers before.numbers;
      connections = firings_are_orderly.connections c.limit (text_of c.spec) q.situation
          t.situation f t.outs t.step.done before.connections;
    })
