-- What is printed token by token is spaced in the one way.
use Rattle.std.proofs.Common.{◌≡◌, ℕ, ◌+◌, ◌-◌, List, [], ◌∷◌, ◌++◌, length, take, refl, ◌∙◌, ap}
use Rattle.std.proofs.Common.{subst, arith, Option, Some, None, append_assoc, length-append}
use Rattle.std.specs.Prelude.{slice_range}
use Rattle.std.proofs.lemmas.List.{drop_at, take_at}
use Rattle.est_lexer.specs.declared.kind.Token.{Token}
use Rattle.est_lexer.specs.declared.kind.TokenKind.{TokenKind}
use Rattle.est_lexer.specs.Spans.{end_of}
use Rattle.text_printer.specs.Spacing.{between_them, gap_before, open_after, AreSpacedFrom}
use Rattle.text_printer.specs.Putting.{Laid, l_none, l_more}

-- In a text, tokens from an offset up to an end, with the last one, and how many round brackets are
-- open before and after them.
pub data Spaced (text : List ℕ) : ℕ → ℕ → List Token → ℕ → Token → ℕ → Type 0 where
  p_one : {nested : ℕ} (x : Token)
      → Spaced text x.start nested (x ∷ []) (end_of x) x (open_after nested x.kind)
  p_more : {nested end m : ℕ} {z : Token} (x y : Token) (rest : List Token)
      → slice_range text (end_of x) y.start
      ≡ between_them (open_after nested x.kind) x.kind y.kind
      → Spaced text y.start (open_after nested x.kind) (y ∷ rest) end z m
      → Spaced text x.start nested (x ∷ y ∷ rest) end z m

module _ (text : List ℕ) where
  -- and one more
  spaced_more : {offset nested end m : ℕ} {z : Token} {xs : List Token}
      → Spaced text offset nested xs end z m → (y : Token)
      → slice_range text end y.start ≡ between_them m z.kind y.kind
      → Spaced text offset nested (xs ++ y ∷ []) (end_of y) y (open_after m y.kind)
  spaced_more (p_one x) y e = p_more x y [] e (p_one y)
  spaced_more (p_more x w rest e s) y f = p_more x w (rest ++ y ∷ []) e (spaced_more s y f)

  -- and then a line feed
  pub spaced_from : {offset nested end m : ℕ} {z : Token} {xs : List Token}
      → Spaced text offset nested xs end z m → slice_range text end (length text) ≡ 10 ∷ []
      → AreSpacedFrom text offset nested xs
  spaced_from (p_one x) f = (refl, f)
  spaced_from (p_more x y rest e s) f = (refl, e, spaced_from s f)

-- What is laid, in each text that goes on after it.
pub data IsSpaced (whole : List ℕ) : List ℕ → List Token → Option TokenKind → ℕ → Type 0 where
  q_none : IsSpaced whole [] [] None 0
  q_some : {text : List ℕ} {tokens : List Token} {nested : ℕ} (z : Token)
      → Spaced whole 0 0 tokens (length text) z nested
      → IsSpaced whole text tokens (Some z.kind) nested

-- what stands between two lists
middle : (xs ys zs : List ℕ)
    → slice_range (xs ++ (ys ++ zs)) (length xs) (length xs + length ys) ≡ ys
middle xs ys zs =
    ap (λ r. take (length xs + length ys - length xs) r)
    (drop_at xs (ys ++ zs) (length xs) refl)
    ∙ ap (λ n. take n (ys ++ zs)) (omega arith) ∙ take_at ys zs (length ys) refl

pub laid_spaced : (whole : List ℕ) {text : List ℕ} {tokens : List Token} {last : Option TokenKind}
    {nested : ℕ} → Laid text tokens last nested → (later : List ℕ) → whole ≡ text ++ later
    → IsSpaced whole text tokens last nested
laid_spaced whole l_none later e = q_none
laid_spaced whole (l_more {text} {tokens} {last} {nested} kind bytes l) later e =
    let gap = gap_before last nested kind in
    let f : whole ≡ text ++ (gap ++ (bytes ++ later)) = e ∙ simp append_assoc in
    step (laid_spaced whole l (gap ++ (bytes ++ later)) f) f
  where
    ends : (text gap bytes : List ℕ) → length text + length gap + length bytes
        ≡ length (text ++ (gap ++ bytes))
    ends text gap bytes =
        omega (arith, length-append text (gap ++ bytes), length-append gap bytes)

    step : {text : List ℕ} {tokens : List Token} {last : Option TokenKind} {nested : ℕ}
        → IsSpaced whole text tokens last nested
        → whole ≡ text ++ (gap_before last nested kind ++ (bytes ++ later))
        → IsSpaced whole (text ++ (gap_before last nested kind ++ bytes)) (tokens ++ record {
          kind = kind;
          start = length text + length (gap_before last nested kind);
          length = length bytes;
        } ∷ []) (Some kind) (open_after nested kind)
    step q_none f =
        let y : Token = record { kind = kind; start = 0; length = length bytes } in
        q_some y (subst (λ n. Spaced whole 0 0 (y ∷ []) n y (open_after 0 kind))
        (ends [] [] bytes) (p_one y))
    step {text} {tokens} {nested = nested} (q_some z s) f =
        let gap = between_them nested z.kind kind in
        let y : Token = record {
          kind = kind;
          start = length text + length gap;
          length = length bytes;
        } in
        let there : slice_range whole (length text) (length text + length gap) ≡ gap =
        ap (λ w. slice_range w (length text) (length text + length gap)) f
        ∙ middle text gap (bytes ++ later) in
        q_some y (subst (λ n. Spaced whole 0 0 (tokens ++ y ∷ []) n y (open_after nested kind))
        (ends text gap bytes) (spaced_more whole s y there))
