use Rattle.std.proofs.Common.{refl}
use Rattle.std.proofs.lemmas.List.{map-append}
use Rattle.text_reader.proofs.Turns.{no_part, all_parts}
use Rattle.text_reader.proofs.Seen.{more_parts_by, lessens_by}
use Rattle.text_productions.specs.Tokens as tokens
use Rattle.text_productions.proofs.Fits.{K}
use Rattle.est_grammar.proofs.Made as made
use Rattle.est_grammar.proofs.specification.commons.Goals as goal

pub loop-reader-init : goal.loop-reader-init
loop-reader-init c = rw c.new-items.ensures (no_part K)

pub loop-reader-preserved : goal.loop-reader-preserved
loop-reader-preserved c = more_parts_by K _ tokens.common_tokens refl refl refl
    c.loop-reader-test.ensures c.loop-reader.invariant (made.common_node c.common-next.ensures)
    c.keep.ensures.still (λ w. rw (c.keep.ensures.added w, map-append) refl)

pub loop-reader-smaller : goal.loop-reader-smaller
loop-reader-smaller c = lessens_by K tokens.common_tokens refl c.loop-reader-test.ensures
    (made.common_node c.common-next.ensures) c.keep.ensures.still

pub returns : goal.returns
returns c = all_parts K tokens.common_tokens refl refl c.loop-reader-test.ensures
    c.loop-reader.invariant
