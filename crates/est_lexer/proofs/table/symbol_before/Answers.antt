use Rattle.std.proofs.Common.{◌∙◌, get_or, refl}
use Rattle.est_lexer.proofs.SymbolBytes.{bytes_decide}
use Rattle.est_lexer.proofs.table.symbol_before.Goals as goal

pub returns-then-begins_several_symbols : goal.returns-then-begins_several_symbols
returns-then-begins_several_symbols c = c.longest_symbol.ensures ∙ bytes_decide c.args.rest.now _ _ _
    c.byte_at-first.ensures c.byte_at.ensures c.byte_at-then-begins_several_symbols.ensures

pub returns-else-begins_several_symbols : goal.returns-else-begins_several_symbols
returns-else-begins_several_symbols c =
    c.single_symbol.ensures (get_or c.args.rest.now 1 0) (get_or c.args.rest.now 2 0)
    ∙ bytes_decide c.args.rest.now _ _ _ c.byte_at-first.ensures refl refl
