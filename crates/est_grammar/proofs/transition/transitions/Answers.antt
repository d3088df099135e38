use Rattle.std.proofs.Common.{refl}
use Rattle.std.proofs.lemmas.List.{map-append}
use Rattle.text_reader.proofs.Turns.{one_part, all_parts}
use Rattle.text_reader.proofs.Seen.{more_parts_by, lessens_by}
use Rattle.text_productions.specs.Tokens as tokens
use Rattle.text_productions.proofs.Fits.{K}
use Rattle.est_grammar.proofs.transition.transitions.Goals as goal

pub loop-reader-init : goal.loop-reader-init
loop-reader-init c = one_part K refl c.transition-first.ensures c.keep.ensures.still
    (λ w. rw (c.keep.ensures.added w, c.new-items.ensures) refl)

pub loop-reader-preserved : goal.loop-reader-preserved
loop-reader-preserved c = more_parts_by K _ tokens.transition_tokens refl refl refl
    c.loop-reader-test.ensures c.loop-reader.invariant c.transition-next.ensures
    c.keep-in-loop-reader.ensures.still (λ w. rw (c.keep-in-loop-reader.ensures.added w, map-append)
    refl)

pub loop-reader-smaller : goal.loop-reader-smaller
loop-reader-smaller c = lessens_by K tokens.transition_tokens refl c.loop-reader-test.ensures
    c.transition-next.ensures c.keep-in-loop-reader.ensures.still

pub returns : goal.returns
returns c = (all_parts K tokens.transition_tokens refl refl c.loop-reader-test.ensures
    c.loop-reader.invariant)
