use Rattle.std.proofs.Common.{refl, [], ◌∷◌}
use Rattle.est_lexer.specs.declared.kind.Symbol.TheVariants as symbols
use Rattle.est_lexer.specs.declared.kind.TokenKind.TheVariants.{Symbol}
use Rattle.text_reader.specs.Tests.{kind}
use Rattle.text_reader.proofs.Going.{take, then, last, goes_still, opt_in, opt_out, filled}
use Rattle.text_reader.proofs.Steps.{still_here, taken_well}
use Rattle.text_productions.specs.Nodes as node
use Rattle.text_productions.proofs.Fits.{K}
use Rattle.text_productions.proofs.declaration.parameters.Goals as goal

pub returns-then-not-sees : goal.returns-then-not-sees
returns-then-not-sees c = rw c.new.ensures (opt_out K (kind (Symbol symbols.LeftParenthesis) ∷ [])
    refl refl (c.if-not-sees.ensures, tt))

pub returns : goal.returns
returns c = goes_still (opt_in K (kind (Symbol symbols.LeftParenthesis)) refl refl
    c.if-not-sees.ensures (take K c.symbol.ensures (then K refl c.params-params.ensures
    (last K c.symbol-2.ensures)))) still_here (λ w. let f = filled node.a_parameter _
    c.params-params.ensures (taken_well c.symbol-2.ensures w) in rw f.2 refl)
