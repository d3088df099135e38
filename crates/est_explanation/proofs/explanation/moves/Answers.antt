use Rattle.std.proofs.Common.{refl, map}
use Rattle.std.proofs.lemmas.List.{map-append}
use Rattle.text_reader.proofs.Steps.{seen_among}
use Rattle.text_reader.proofs.Turns.{no_part, more_parts, all_parts, lessens}
use Rattle.est_explanation.specs.ExplanationGrammar.{move_starts}
use Rattle.est_explanation.specs.ExplanationNodes.{a_move}
use Rattle.est_explanation.proofs.Explaining.{known}
use Rattle.est_explanation.proofs.explanation.moves.Goals as goal

pub loop-reader-init : goal.loop-reader-init
loop-reader-init c = rw c.new-moves.ensures (no_part known)

pub loop-reader-preserved : goal.loop-reader-preserved
loop-reader-preserved c =
    let s = seen_among c.loop-reader.reader move_starts move_starts refl c.loop-reader-test.ensures
    in
    more_parts known (map a_move c.loop-reader.moves) s.0 s.1 refl refl s.2 c.loop-reader.invariant
    c.next_move-next.ensures c.keep.ensures.still
    (λ w. rw (c.keep.ensures.added w, map-append) refl)

pub loop-reader-smaller : goal.loop-reader-smaller
loop-reader-smaller c =
    let s = seen_among c.loop-reader.reader move_starts move_starts refl c.loop-reader-test.ensures
    in
    lessens known refl s.2 c.next_move-next.ensures c.keep.ensures.still

pub returns : goal.returns
returns c = all_parts known move_starts refl refl c.loop-reader-test.ensures c.loop-reader.invariant
