-- What is printed token by token is read as these tokens.
use Rattle.std.proofs.Common.{◌≡◌, ℕ, zero, suc, ◌+◌, ◌-◌, ◌<◌, ◌≤◌, Bool, true, false, ◌&&◌, List}
use Rattle.std.proofs.Common.{[], ◌∷◌, ◌++◌, length, take, drop, get_or, refl, sym, ◌∙◌, ap, subst}
use Rattle.std.proofs.Common.{arith, Option, Some, None, slice_get, append_assoc, length-append}
use Rattle.std.proofs.Common.{nat_eq}
use Rattle.std.specs.Prelude.{if◌then◌else◌}
use Rattle.std.specs.List.{list_all, prefix_len}
use Rattle.std.specs.Char.{is_ascii_digit}
use Rattle.std.proofs.lemmas.Bool.{and_parts}
use Rattle.std.proofs.lemmas.List.{drop_at, take_at, get_or-drop, drop-drop}
use Rattle.est_lexer.specs.declared.kind.Token.{Token}
use Rattle.est_lexer.specs.declared.kind.TokenKind.{TokenKind}
use Rattle.est_lexer.specs.Between.{is_blank, opening, IsBetween, nothing, blank}
use Rattle.est_lexer.specs.Spans.{spelling}
use Rattle.est_lexer.specs.TokenList.{MayBegin, IsTokenList}
use Rattle.est_lexer.specs.inside.Scanning.{IsTokenAt}
use Rattle.est_lexer.proofs.Longest.{Longest, token_there}
use Rattle.est_lexer.proofs.TokenLaws.{GoesOn, list_next, list_ends}
use Rattle.text_printer.specs.Spacing.{is_semicolon, gap_before, open_after}
use Rattle.text_printer.specs.PlainSpelling.{IsSpelledPlainly, AreSpelledPlainly}
use Rattle.text_printer.specs.Putting.{Laid, l_none, l_more}
use Rattle.text_printer.proofs.Standing.{Stands}
use Rattle.text_printer.proofs.Ending.{ends_at, stands}
use Rattle.text_printer.proofs.Joined.{runs_on, joins, between_ends, ends_blank}

-- Tokens of a text are spelled in the one way, and none would go on into the next.
pub record AreFit (whole : List ℕ) (tokens : List Token) : Type 0 where
  pub spelled : AreSpelledPlainly whole tokens
  pub apart : (i : ℕ) (x y : Token) → slice_get tokens i ≡ Some x
      → slice_get tokens (suc i) ≡ Some y → runs_on x.kind y.kind ≡ false

-- PLACES

get_seam : {T : Type 0} (xs : List T) (y : T) (ys : List T)
    → slice_get (xs ++ y ∷ ys) (length xs) ≡ Some y
get_seam [] y ys = refl
get_seam (x ∷ xs) y ys = get_seam xs y ys

get_front : {T : Type 0} (xs ys : List T) (i : ℕ) (x : T) → slice_get xs i ≡ Some x
    → slice_get (xs ++ ys) i ≡ Some x
get_front [] ys i x e = absurd cc
get_front (z ∷ xs) ys zero x e = e
get_front (z ∷ xs) ys (suc i) x e = get_front xs ys i x e

fit_front : (whole : List ℕ) (xs ys : List Token) → AreFit whole (xs ++ ys) → AreFit whole xs
fit_front whole xs ys f = record {
  spelled = λ place token e. f.spelled place token (get_front xs ys place token e);
  apart = λ i x y e h. f.apart i x y (get_front xs ys i x e) (get_front xs ys (suc i) y h);
}

-- what stands behind two lists
behind : (xs ys zs : List ℕ) → drop (length xs + length ys) (xs ++ (ys ++ zs)) ≡ zs
behind xs ys zs =
    ap (drop (length xs + length ys)) (sym (append_assoc xs ys zs))
    ∙ drop_at (xs ++ ys) zs (length xs + length ys) (length-append xs ys)

byte_at : (text : List ℕ) (place i : ℕ) (xs : List ℕ) → drop place text ≡ xs
    → get_or text (place + i) 0 ≡ get_or xs i 0
byte_at text place i xs e = sym (get_or-drop place text i 0) ∙ ap (λ r. get_or r i 0) e

first_at : (text : List ℕ) (place : ℕ) (xs : List ℕ) → drop place text ≡ xs
    → get_or text place 0 ≡ get_or xs 0 0
first_at text place xs e =
    ap (λ k. get_or text k 0) (omega arith) ∙ byte_at text place 0 xs e

opening_at : (text : List ℕ) (place : ℕ) (xs : List ℕ) → drop place text ≡ xs
    → opening text place ≡ opening xs 0
unfolding opening
opening_at text place xs e = rw (first_at text place xs e, byte_at text place 1 xs e) refl

may_begin_at : (text : List ℕ) (place : ℕ) (xs : List ℕ) → drop place text ≡ xs → MayBegin xs 0
    → MayBegin text place
may_begin_at text place xs e h = record {
  no_comment = opening_at text place xs e ∙ h.no_comment;
  few_digits = subst (λ r. prefix_len is_ascii_digit r < 19) (sym e) h.few_digits;
}

onward : (text : List ℕ) (place : ℕ) (xs ys : List ℕ) → drop place text ≡ xs ++ ys
    → drop (place + length xs) text ≡ ys
onward text place xs ys e =
    sym (drop-drop (length xs) place text) ∙ ap (drop (length xs)) e ∙ drop_at xs ys (length xs)
    refl

blanks_at : (text : List ℕ) (place : ℕ) (gap rest : List ℕ) → drop place text ≡ gap ++ rest
    → list_all is_blank gap ≡ true → IsBetween text place (place + length gap)
blanks_at text place [] rest e h =
    subst (λ n. IsBetween text place n) (omega arith) (nothing place)
blanks_at text place (b ∷ gap) rest e h =
    let p = and_parts _ _ h in
    let here : is_blank (get_or text place 0) ≡ true =
    ap is_blank (first_at text place (b ∷ (gap ++ rest)) e) ∙ p.0 in
    let more = blanks_at text (place + 1) gap rest (onward text place (b ∷ []) (gap ++ rest) e) p.1
    in
    blank place (place + length (b ∷ gap)) here
    (subst (λ n. IsBetween text (place + 1) n) (omega arith) more)

gap_blank : (last : Option TokenKind) (nested : ℕ) (kind : TokenKind)
    → list_all is_blank (gap_before last nested kind) ≡ true
gap_blank None nested kind = refl
gap_blank (Some k) nested kind = by (is_semicolon k && nat_eq nested 0) (joins k kind)
  where
    by : (a b : Bool)
        → list_all is_blank (if a then 10 ∷ [] else if b then [] else 32 ∷ []) ≡ true
    by true b = refl
    by false true = refl
    by false false = refl

-- THE TOKENS

-- what stands after the last token, if there is one, ends it
abbrev EndsLast : Option TokenKind → List ℕ → Type 0
EndsLast None later = Unit {0}
EndsLast (Some k) later = ends_at k (get_or later 0 0) ≡ true

-- what is printed before a token ends the one before it
gap_ends : (whole : List ℕ) {text : List ℕ} {tokens : List Token} {last : Option TokenKind}
    {nested : ℕ} → Laid text tokens last nested → (x : Token) (bytes later : List ℕ)
    → AreFit whole (tokens ++ x ∷ []) → IsSpelledPlainly x.kind bytes
    → EndsLast last (gap_before last nested x.kind ++ (bytes ++ later))
gap_ends whole l_none x bytes later f p = tt
gap_ends whole (l_more {text} {tokens} {last} {nested} kind old l) x bytes later f p =
    let y : Token = record {
      kind = kind;
      start = length text + length (gap_before last nested kind);
      length = length old;
    } in
    let all : List Token = (tokens ++ y ∷ []) ++ x ∷ [] in
    let n = length tokens in
    let here : slice_get all n ≡ Some y =
    get_front (tokens ++ y ∷ []) (x ∷ []) n y (get_seam tokens y []) in
    let more : slice_get all (suc n) ≡ Some x =
    ap (slice_get all) (omega (arith, length-append tokens (y ∷ [])))
    ∙ get_seam (tokens ++ y ∷ []) x [] in
    between_ends (open_after nested kind) kind x.kind (spelling whole y) bytes later
    (f.spelled n y here) p (f.apart n y x here more)

-- a token that is printed, in a text that goes on after it
token_here : (whole text gap bytes later : List ℕ) (kind : TokenKind) (x : Token)
    → x ≡ record { kind = kind; start = length text + length gap; length = length bytes }
    → whole ≡ text ++ (gap ++ (bytes ++ later)) → Stands kind bytes later
    → IsTokenAt whole (length text + length gap) x
token_here whole text gap bytes later kind x is e s =
    let there : drop (length text + length gap) whole ≡ bytes ++ later =
    ap (drop (length text + length gap)) e ∙ behind text gap (bytes ++ later) in
    let inside : length text + length gap ≤ length whole =
    omega (
      arith,
      ap length e,
      length-append text (gap ++ (bytes ++ later)),
      length-append gap (bytes ++ later),
    ) in
    token_there whole (length text + length gap) (length bytes) (length bytes) kind x inside
    (may_begin_at whole (length text + length gap) (bytes ++ later) there s.may_begin)
    (subst (λ r. Longest r (length bytes) kind) (sym there) s.longest) refl is

spelled_here : (whole text gap bytes later : List ℕ)
    → whole ≡ text ++ (gap ++ (bytes ++ later))
    → take (length text + length gap + length bytes - (length text + length gap))
    (drop (length text + length gap) whole) ≡ bytes
spelled_here whole text gap bytes later e =
    ap (λ n. take n (drop (length text + length gap) whole)) (omega arith)
    ∙ ap (take (length bytes)) (ap (drop (length text + length gap)) e
    ∙ behind text gap (bytes ++ later)) ∙ take_at bytes later (length bytes) refl

-- What is printed goes on by the tokens that are read after it.
laid_goes : (whole : List ℕ) {text : List ℕ} {tokens : List Token} {last : Option TokenKind}
    {nested : ℕ} → Laid text tokens last nested → (later : List ℕ) → whole ≡ text ++ later
    → AreFit whole tokens → EndsLast last later → GoesOn whole (length text) tokens
laid_goes whole l_none later e f g = λ more rest. rest
laid_goes whole (l_more {text} {tokens} {last} {nested} kind bytes l) later e f g =
    let gap = gap_before last nested kind in
    let x : Token = record {
      kind = kind;
      start = length text + length gap;
      length = length bytes;
    } in
    let e' : whole ≡ text ++ (gap ++ (bytes ++ later)) = e ∙ simp append_assoc in
    let spelled : IsSpelledPlainly kind bytes =
    subst (λ (bs : List ℕ). IsSpelledPlainly kind bs) (spelled_here whole text gap bytes later e')
    (f.spelled (length tokens) x (get_seam tokens x [])) in
    let on = laid_goes whole l (gap ++ (bytes ++ later)) e' (fit_front whole tokens (x ∷ []) f)
    (gap_ends whole l x bytes later f spelled) in
    let between = blanks_at whole (length text) gap (bytes ++ later)
    (ap (drop (length text)) e' ∙ drop_at text (gap ++ (bytes ++ later)) (length text) refl)
    (gap_blank last nested kind) in
    let all = list_next whole (length text) (length text + length gap) tokens (tokens ++ x ∷ []) x
    on between (token_here whole text gap bytes later kind x refl e'
    (stands kind bytes later spelled.token g)) refl in
    subst (λ n. GoesOn whole n (tokens ++ x ∷ []))
    (omega (arith, length-append text (gap ++ bytes), length-append gap bytes)) all

-- The tokens of what is printed, with a line feed after it, are those that were printed.
pub laid_tokens : {text : List ℕ} {tokens : List Token} {last : Option TokenKind} {nested : ℕ}
    → Laid text tokens last nested → AreFit (text ++ 10 ∷ []) tokens
    → IsTokenList (text ++ 10 ∷ []) tokens
laid_tokens {text} {tokens} {last} l f =
    let whole = text ++ 10 ∷ [] in
    list_ends whole (length text) (length text + 1) tokens
    (laid_goes whole l (10 ∷ []) refl f (line_ends l f))
    (blanks_at whole (length text) (10 ∷ []) [] (drop_at text (10 ∷ []) (length text) refl) refl)
    (omega (arith, length-append text (10 ∷ [])))
  where
    line_ends : {text whole : List ℕ} {tokens : List Token} {last : Option TokenKind} {nested : ℕ}
        → Laid text tokens last nested → AreFit whole tokens → EndsLast last (10 ∷ [])
    line_ends l_none f = tt
    line_ends {whole = whole} (l_more {text} {tokens} {last} {nested} kind bytes l) f =
        let y : Token = record {
          kind = kind;
          start = length text + length (gap_before last nested kind);
          length = length bytes;
        } in
        (ends_blank kind (spelling whole y)
        (f.spelled (length tokens) y (get_seam tokens y []))).1
