use Rattle.std.proofs.Common.{◌≡◌, ◌∷◌, [], ◌++◌, length, map, ap, sym, ◌∙◌}
use Rattle.std.proofs.Common.{append-nil, arith}
use Rattle.std.specs.Vec.Iter.{into_iter_items}
use Rattle.est_meaning.specs.declared.trace.Expected.TheVariants.{Known}
use Rattle.est_trace.proofs.KnownEvents.{IsKnown, known_more, next_holds, nothing_left}
use Rattle.est_trace.proofs.lines.known_events.Goals as goal

pub loop-one-preserved : goal.loop-one-preserved
loop-one-preserved c =
    let at = c.loop-one in
    let x = c.in-Some.one in
    let rest = into_iter_items c.next.new.self in
    let steps : into_iter_items at.one-iterator ≡ x ∷ rest = c.in-Some.ensures.steps.0 in
    let fewer = c.in-Some.ensures.steps.1 in
    let many : length (into_iter_items at.one-iterator) ≡ length (x ∷ rest) = ap length steps in
    let was = at.invariant.1 in (
      ap (λ xs. map Known xs ++ rest) c.in_ok-push.ensures.ok
          ∙ known_more at.events c.known_event.result x rest c.args.expected c.known_event.ensures
          (ap (λ xs. map Known at.events ++ xs) (sym steps) ∙ at.invariant.0),
      omega (arith, fewer, many, was),
    )

pub returns : goal.returns
returns c =
    let at = c.loop-one in
    let left = c.in-None.ensures.steps.0 in
    let none : into_iter_items at.one-iterator ≡ [] =
    nothing_left (into_iter_items at.one-iterator) (sym at.invariant.1 ∙ left) in
    sym (append-nil (map Known at.events))
    ∙ (ap (λ xs. map Known at.events ++ xs) (sym none) ∙ at.invariant.0)

pub known_event-requires : goal.known_event-requires
known_event-requires c =
    let at = c.loop-one in
    next_holds IsKnown (map Known at.events) c.in-Some.one (into_iter_items c.next.new.self)
    c.args.expected
    (ap (λ xs. map Known at.events ++ xs) (sym c.in-Some.ensures.steps.0) ∙ at.invariant.0)
    c.requires
