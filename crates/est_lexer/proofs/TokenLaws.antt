use Rattle.std.proofs.Common.{◌≡◌, ◌≤◌, ◌<◌, ◌+◌, ◌-◌, ℕ, suc, zero, List, [], ◌∷◌}
use Rattle.std.proofs.Common.{◌++◌, length, take, drop, arith, refl, ap, sym, subst}
use Rattle.std.proofs.Common.{◌∙◌, Some, None, slice_get, append_assoc, length-drop}
use Rattle.std.specs.Char.{is_ascii_digit}
use Rattle.est_lexer.specs.Between.{IsBetween}
use Rattle.est_lexer.specs.Spellings.{kind_of}
use Rattle.est_lexer.specs.Spans.{end_of, spelling}
use Rattle.est_lexer.specs.inside.Scanning.{IsTokenAt, IsBadAt}
use Rattle.est_lexer.specs.TokenList.{IsLongest, IsBadSpan, illegal, open_comment, many_digits}
use Rattle.est_lexer.specs.TokenList.{AreTokensFrom, none_left, bad, next, digits_at, IsTokenList}
use Rattle.std.proofs.lemmas.List.{append-nil}
use Rattle.est_lexer.specs.declared.kind.Token.{Token}
use Rattle.est_lexer.specs.declared.kind.TokenKind.TheVariants.{Bad}
use Rattle.est_lexer.proofs.Longest.{kind_of_nil, front_within}
use Rattle.est_lexer.proofs.Marks.{between_onward, opening_inside}

-- A token has a byte.
pub longest_some : (text : List ℕ) (token : Token) → IsLongest text token → 0 < token.length
longest_some text token long = at_least token.length refl
  where
    at_least : (n : ℕ) → token.length ≡ n → 0 < n
    at_least zero h =
        let none : end_of token - token.start ≡ 0 = omega arith in
        let empty : kind_of (spelling text token) ≡ None =
        ap (λ (k : ℕ). kind_of (take k (drop token.start text))) none ∙ kind_of_nil in
        absurd (let differ = sym long.kind ∙ empty in cc)
    at_least (suc n) h = omega arith

-- A bad token has a byte, and lies within the text.
pub bad_within : (text : List ℕ) (place size : ℕ) → IsBadSpan text place size
    → (0 < size) × (place + size ≤ length text)
bad_within text place _ (illegal none) = (omega arith, omega (arith, none.inside))
bad_within text place _ (open_comment unended) =
    let inside = opening_inside text place unended.begins in
    (omega (arith, unended.begins), omega (arith, unended.begins))
bad_within text place _ (many_digits many) =
    let inside : digits_at text place ≤ length text - place =
    omega (arith, front_within is_ascii_digit (drop place text), length-drop place text) in
    (omega arith, omega arith)

-- Each token lies within the text.
pub tokens_inside : (text : List ℕ) (from : ℕ) (tokens : List Token)
    → AreTokensFrom text from tokens → (place : ℕ) (token : Token)
    → slice_get tokens place ≡ Some token → token.start + token.length ≤ length text
tokens_inside text from [] (none_left _ gap) place token at = absurd (cc)
tokens_inside text from (t ∷ []) (bad _ _ gap kind span) zero token at =
    let same : t ≡ token = cc in
    subst (λ (u : Token). u.start + u.length ≤ length text) same (bad_within text t.start t.length
    span).1
tokens_inside text from (t ∷ []) (bad _ _ gap kind span) (suc place) token at = absurd (cc)
tokens_inside text from (t ∷ ts) (next _ _ _ gap long more) zero token at =
    let same : t ≡ token = cc in
    subst (λ (u : Token). u.start + u.length ≤ length text) same long.inside
tokens_inside text from (t ∷ ts) (next _ _ _ gap long more) (suc place) token at = tokens_inside
    text (end_of t) ts more place token at

-- Each token that is not bad has the kind of its bytes.
pub token_kinds : (text : List ℕ) (from : ℕ) (tokens : List Token) → AreTokensFrom text from tokens
    → (place : ℕ) (token : Token) → slice_get tokens place ≡ Some token → (token.kind ≡ Bad → ⊥)
    → kind_of (spelling text token) ≡ Some token.kind
token_kinds text from [] (none_left _ gap) place token at good = absurd cc
token_kinds text from (t ∷ []) (bad _ _ gap kind span) zero token at good =
    let same : t ≡ token = cc in
    absurd (good (sym (ap (λ (u : Token). u.kind) same) ∙ kind))
token_kinds text from (t ∷ []) (bad _ _ gap kind span) (suc place) token at good = absurd cc
token_kinds text from (t ∷ ts) (next _ _ _ gap long more) zero token at good =
    let same : t ≡ token = cc in
    subst (λ (u : Token). kind_of (spelling text u) ≡ Some u.kind) same long.kind
token_kinds text from (t ∷ ts) (next _ _ _ gap long more) (suc place) token at good =
    token_kinds text (end_of t) ts more place token at good

-- There are at most as many tokens as bytes.
pub tokens_few : (text : List ℕ) (from : ℕ) (tokens : List Token) → from ≤ length text
    → AreTokensFrom text from tokens → from + length tokens ≤ length text
tokens_few text from [] inside (none_left _ gap) = omega arith
tokens_few text from (t ∷ []) inside (bad _ _ gap kind span) =
    let within = bad_within text t.start t.length span in
    let onward = between_onward gap in
    omega arith
tokens_few text from (t ∷ ts) inside (next _ _ _ gap long more) =
    let some = longest_some text t long in
    let onward = between_onward gap in
    let rest = tokens_few text (end_of t) ts long.inside more in
    omega arith

-- The tokens so far go on by those from a place on.
abbrev pub GoesOn : List ℕ → ℕ → List Token → Type 0
GoesOn text from tokens = (more : List Token) → AreTokensFrom text from more
    → AreTokensFrom text 0 (tokens ++ more)

-- The tokens so far are all, where none is left.
pub list_ends : (text : List ℕ) (from start : ℕ) (tokens : List Token) → GoesOn text from tokens
    → IsBetween text from start → start ≡ length text → IsTokenList text tokens
list_ends text from start tokens onward gap at_end =
    let gap_to_end = subst (λ (n : ℕ). IsBetween text from n) at_end gap in
    subst (λ (ts : List Token). AreTokensFrom text 0 ts) (append-nil tokens)
    (onward [] (none_left from gap_to_end))

-- The tokens so far and a bad one are all.
pub list_bad : (text : List ℕ) (from start : ℕ) (tokens all : List Token) (token : Token)
    → GoesOn text from tokens → IsBetween text from start → IsBadAt text start token
    → all ≡ tokens ++ token ∷ [] → IsTokenList text all
list_bad text from start tokens all token onward gap at is =
    let gap_to_token = subst (λ (n : ℕ). IsBetween text from n) (sym at.starts) gap in
    subst (λ (ts : List Token). AreTokensFrom text 0 ts) (sym is)
    (onward (token ∷ []) (bad from token gap_to_token at.kind at.span))

-- The tokens so far and one more go on after it.
pub list_next : (text : List ℕ) (from start : ℕ) (tokens all : List Token) (token : Token)
    → GoesOn text from tokens → IsBetween text from start → IsTokenAt text start token
    → all ≡ tokens ++ token ∷ [] → GoesOn text (token.start + token.length) all
list_next text from start tokens all token onward gap at is = λ more rest.
    let gap_to_token = subst (λ (n : ℕ). IsBetween text from n) (sym at.starts) gap in
    let whole = onward (token ∷ more) (next from token more gap_to_token at.longest rest) in
    let same : tokens ++ (token ∷ more) ≡ all ++ more = sym (ap (λ (ts : List Token). ts ++ more) is
    ∙ append_assoc tokens (token ∷ []) more) in
    subst (λ (ts : List Token). AreTokensFrom text 0 ts) same whole
