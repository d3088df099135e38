-- When two tokens are of one kind.
use Rattle.std.specs.Prelude.{Bool}
use Rattle.est_lexer.specs.declared.kind.TokenKind.{TokenKind}
use Rattle.est_lexer.specs.contracts.kind.TokenKindPartialEq.TheImpl.{ghosts}

-- whether two kinds are the same: the comparison that the type derives
abbrev pub is_same : TokenKind → TokenKind → Bool
is_same a b = ghosts.eq a b
