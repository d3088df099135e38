use Rattle.std.proofs.Common.{refl, [], ◌∷◌}
use Rattle.est_lexer.specs.declared.kind.ReservedWord.TheVariants as words
use Rattle.est_lexer.specs.declared.kind.TokenKind.TheVariants.{Reserved}
use Rattle.text_reader.specs.Tests.{kind}
use Rattle.text_reader.proofs.Turns.{lessens, no_section, more_first, more_second, all_sections}
use Rattle.text_reader.proofs.Steps.{still_here}
use Rattle.text_productions.proofs.Fits.{K}
use Rattle.text_productions.proofs.header.sections.Goals as goal

pub loop-reader-init : goal.loop-reader-init
loop-reader-init c = rw (c.new-points.ensures, c.new-exports.ensures) (no_section K)

pub loop-reader-preserved-then-sees : goal.loop-reader-preserved-then-sees
loop-reader-preserved-then-sees c = more_first K _ (kind (Reserved words.Ip)) refl c.if-sees.ensures
    c.loop-reader.invariant c.points_section.ensures

pub loop-reader-smaller-then-sees : goal.loop-reader-smaller-then-sees
loop-reader-smaller-then-sees c = lessens K refl c.if-sees.ensures c.points_section.ensures.goes
    still_here

pub loop-reader-preserved : goal.loop-reader-preserved
loop-reader-preserved c = more_second K _ (kind (Reserved words.Export)) refl c.if-sees-2.ensures
    c.loop-reader.invariant c.exports_section.ensures

pub loop-reader-smaller : goal.loop-reader-smaller
loop-reader-smaller c = lessens K refl c.if-sees-2.ensures c.exports_section.ensures.goes still_here

pub returns-else-sees-2 : goal.returns-else-sees-2
returns-else-sees-2 c = all_sections K (kind (Reserved words.Ip) ∷ kind (Reserved words.Export)
    ∷ []) refl refl (c.if-sees.ensures, (c.if-sees-2.ensures, tt)) c.loop-reader.invariant
