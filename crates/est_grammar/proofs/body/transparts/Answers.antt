use Rattle.std.proofs.Common.{refl, [], ◌∷◌}
use Rattle.std.proofs.lemmas.List.{map-append}
use Rattle.est_lexer.specs.declared.kind.ReservedWord.TheVariants as words
use Rattle.est_lexer.specs.declared.kind.TokenKind.TheVariants.{Reserved}
use Rattle.text_reader.specs.Tests.{kind}
use Rattle.text_reader.proofs.Turns.{no_part, more_parts, all_parts, lessens}
use Rattle.text_productions.proofs.Fits.{K}
use Rattle.est_grammar.proofs.body.transparts.Goals as goal

pub loop-reader-init : goal.loop-reader-init
loop-reader-init c = rw c.new-items.ensures (no_part K)

pub loop-reader-preserved : goal.loop-reader-preserved
loop-reader-preserved c = more_parts K _ (kind (Reserved words.Trans)) refl refl refl
    c.loop-reader-test.ensures c.loop-reader.invariant c.transpart-next.ensures c.keep.ensures.still
    (λ w. rw (c.keep.ensures.added w, map-append) refl)

pub loop-reader-smaller : goal.loop-reader-smaller
loop-reader-smaller c = lessens K refl c.loop-reader-test.ensures c.transpart-next.ensures
    c.keep.ensures.still

pub returns : goal.returns
returns c = all_parts K (kind (Reserved words.Trans) ∷ []) refl refl
    (c.loop-reader-test.ensures, tt) c.loop-reader.invariant
