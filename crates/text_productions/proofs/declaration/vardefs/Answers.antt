use Rattle.std.proofs.Common.{refl, [], ◌∷◌}
use Rattle.std.proofs.lemmas.List.{map-append}
use Rattle.est_lexer.specs.declared.kind.TokenKind.TheVariants.{Identifier}
use Rattle.text_reader.specs.Tests.{kind}
use Rattle.text_reader.proofs.Turns.{one_part, more_parts, all_parts, lessens}
use Rattle.text_productions.proofs.Fits.{K}
use Rattle.text_productions.proofs.declaration.vardefs.Goals as goal

pub loop-reader-init : goal.loop-reader-init
loop-reader-init c = one_part K refl c.vardef-first.ensures c.keep.ensures.still
    (λ w. rw (c.keep.ensures.added w, c.new-items.ensures) refl)

pub loop-reader-preserved : goal.loop-reader-preserved
loop-reader-preserved c = more_parts K _ (kind Identifier) refl refl refl c.loop-reader-test.ensures
    c.loop-reader.invariant c.vardef-next.ensures c.keep-in-loop-reader.ensures.still
    (λ w. rw (c.keep-in-loop-reader.ensures.added w, map-append) refl)

pub loop-reader-smaller : goal.loop-reader-smaller
loop-reader-smaller c = lessens K refl c.loop-reader-test.ensures c.vardef-next.ensures
    c.keep-in-loop-reader.ensures.still

pub returns : goal.returns
returns c = (all_parts K (kind Identifier ∷ []) refl refl (c.loop-reader-test.ensures, tt)
    c.loop-reader.invariant)
