use Rattle.std.proofs.Common.{refl, [], ◌∷◌}
use Rattle.std.proofs.lemmas.List.{map-append}
use Rattle.est_lexer.specs.declared.kind.Symbol.TheVariants as symbols
use Rattle.est_lexer.specs.declared.kind.TokenKind.TheVariants.{Symbol}
use Rattle.text_reader.specs.Tests.{kind}
use Rattle.text_reader.proofs.Going.{take}
use Rattle.text_reader.proofs.Turns.{one_part, more_parts, all_parts, lessens}
use Rattle.text_productions.proofs.Fits.{K}
use Rattle.text_productions.proofs.Made as made
use Rattle.text_productions.proofs.header.shorttypes.Goals as goal

pub loop-reader-init : goal.loop-reader-init
loop-reader-init c = one_part K refl (made.short_node c.shorttype-first.ensures)
    c.keep.ensures.still (λ w. rw (c.keep.ensures.added w, c.new-items.ensures) refl)

pub loop-reader-preserved : goal.loop-reader-preserved
loop-reader-preserved c = more_parts K _ (kind (Symbol symbols.Comma)) refl refl refl
    c.loop-reader-test.ensures c.loop-reader.invariant
    (take K c.symbol.ensures (made.short_node c.shorttype-next.ensures))
    c.keep-in-loop-reader.ensures.still (λ w. rw (c.keep-in-loop-reader.ensures.added w, map-append)
    refl)

pub loop-reader-smaller : goal.loop-reader-smaller
loop-reader-smaller c = lessens K refl c.loop-reader-test.ensures
    (take K c.symbol.ensures (made.short_node c.shorttype-next.ensures))
    c.keep-in-loop-reader.ensures.still

pub returns : goal.returns
returns c = (all_parts K (kind (Symbol symbols.Comma) ∷ []) refl refl
    (c.loop-reader-test.ensures, tt) c.loop-reader.invariant)
