use Rattle.std.proofs.Common.{refl, [], ◌∷◌}
use Rattle.est_lexer.specs.declared.kind.TokenKind.TheVariants.{Identifier}
use Rattle.text_reader.specs.Tests.{kind}
use Rattle.text_reader.proofs.Turns.{lessens, first_added, next_added, all_added}
use Rattle.text_productions.proofs.Fits.{K}
use Rattle.text_productions.proofs.header.more_points.Goals as goal

pub loop-reader-init : goal.loop-reader-init
loop-reader-init c = first_added K refl c.point-first.ensures c.keep.ensures

pub loop-reader-preserved : goal.loop-reader-preserved
loop-reader-preserved c = next_added K (kind Identifier) refl refl refl c.loop-reader-test.ensures
    c.loop-reader.invariant c.point-next.ensures c.keep-in-loop-reader.ensures

pub loop-reader-smaller : goal.loop-reader-smaller
loop-reader-smaller c = lessens K refl c.loop-reader-test.ensures c.point-next.ensures
    c.keep-in-loop-reader.ensures.still

pub returns : goal.returns
returns c = all_added K (kind Identifier ∷ []) refl refl (c.loop-reader-test.ensures, tt)
    c.loop-reader.invariant
