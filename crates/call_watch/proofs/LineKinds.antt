-- What kind of line it is, from its tokens.
use Rattle.std.proofs.Common.{◌≡◌, ◌↔◌, ℕ, Bool, true, false, List, [], ◌∷◌, length, ap, subst, sym, ◌∙◌}
use Rattle.std.proofs.Common.{arith, IsTrue}
use Rattle.est_lexer.specs.declared.kind.Token.{Token}
use Rattle.est_lexer.specs.TokenList.{IsTokenList}
use Rattle.est_lexer.proofs.Unique.{tokens_unique}
use Rattle.est_trace.specs.LineText.{IsEndAlone}
use Rattle.call_watch.specs.Lines.{IsSkipped, IsEndLine}

-- a line without tokens is skipped
pub no_tokens : (bytes : List ℕ) (tokens : List Token) → IsTokenList bytes tokens
    → length tokens ≡ 0 → IsSkipped bytes
no_tokens bytes [] list none = list
no_tokens bytes (t ∷ ts) list none = absurd (omega arith)

-- a line with tokens is not
pub some_tokens : (bytes : List ℕ) (tokens : List Token) → IsTokenList bytes tokens
    → (length tokens ≡ 0 → ⊥) → IsSkipped bytes → ⊥
some_tokens bytes tokens list some skips =
    some (ap (λ (ts : List Token). length ts) (tokens_unique bytes 0 tokens [] list skips))

-- it is `end` where its tokens are
pub tokens_end : (bytes text : List ℕ) (tokens : List Token) (test : Bool) → text ≡ bytes
    → IsTokenList bytes tokens → (IsTrue test ↔ IsEndAlone text tokens) → test ≡ true
    → IsEndLine bytes
tokens_end bytes text tokens test same list decides holds =
    (tokens, list, subst (λ (t : List ℕ). IsEndAlone t tokens) same (decides.0 holds))

-- and it is not where they are not
pub tokens_no_end : (bytes text : List ℕ) (tokens : List Token) (test : Bool) → text ≡ bytes
    → IsTokenList bytes tokens → (IsTrue test ↔ IsEndAlone text tokens) → test ≡ false
    → IsEndLine bytes → ⊥
tokens_no_end bytes text tokens test same list decides fails line =
    let tokens_same = tokens_unique bytes 0 line.0 tokens line.1 list in
    let there : IsEndAlone bytes tokens = subst (λ (ts : List Token). IsEndAlone bytes ts) tokens_same
    line.2 in
    let positive : test ≡ true = decides.1 (subst (λ (t : List ℕ). IsEndAlone t tokens) (sym same)
    there) in
    let differ : false ≡ true = sym fails ∙ positive in
    cc
