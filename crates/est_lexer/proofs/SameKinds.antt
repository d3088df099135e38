-- The comparison of kinds tells them apart.
use Rattle.std.proofs.Common.{◌≡◌, Bool, true, false, not, ◌∙◌}
use Rattle.est_lexer.specs.declared.kind.TokenKind.{TokenKind}
use Rattle.est_lexer.specs.contracts.kind.TokenKindPartialEq.TheImpl.Laws.{laws-law}
use Rattle.est_lexer.specs.TokenKinds.{is_same}

not_both : (v : Bool) → not v ≡ true → v ≡ true → ⊥
not_both true e h = cc
not_both false e h = cc

-- no kind is the same as two that differ
pub is_same-apart : (a b x : TokenKind) → not (is_same a b) ≡ true → is_same x a ≡ true
    → is_same x b ≡ true → ⊥
is_same-apart a b x e h k = not_both (is_same a b) e (laws-law.trans a x b (laws-law.symm a x ∙ h)
    k)

-- a kind that is the same as another is the same as what that is the same as
pub is_same-implies : (a b x : TokenKind) → is_same a b ≡ true → is_same x a ≡ true
    → is_same x b ≡ true
is_same-implies a b x e h = laws-law.trans x a b h e
