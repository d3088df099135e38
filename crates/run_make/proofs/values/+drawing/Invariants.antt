use Rattle.std.proofs.Common.{map, replicate, take}
use Rattle.est_syntax.specs.declared.kind.FieldKind.{FieldKind}
use Rattle.run_make.specs.Words.{stream_at}
use Rattle.run_make.specs.DrawnValues.{DrawsValues}
use Rattle.run_make.proofs.values.+drawing.Given as goal

-- so many components are drawn
abbrev pub invariant-draw_components-loop-turn : goal.invariant-draw_components-loop-turn
invariant-draw_components-loop-turn l =
    DrawsValues (replicate l._turn l.of) (stream_at l.fn.rng) l.parts (stream_at l.rng)

-- so many fields are drawn
abbrev pub invariant-draw_fields-loop-field : goal.invariant-draw_fields-loop-field
invariant-draw_fields-loop-field l =
    DrawsValues (map (λ (f : FieldKind). f.kind) (take l.field-index l.fields))
    (stream_at l.fn.rng) l.parts (stream_at l.rng)
