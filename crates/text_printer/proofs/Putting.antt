-- What is known of a token that is printed, in each text that goes on after it.
use Rattle.std.proofs.Common.{◌≡◌, ℕ, suc, ◌+◌, List, [], ◌∷◌, ◌++◌, length, take, drop, refl, ◌∙◌}
use Rattle.std.proofs.Common.{ap, arith, Some, slice_get, append_assoc, length-append}
use Rattle.std.proofs.lemmas.List.{drop_at, take_at}
use Rattle.est_lexer.specs.declared.kind.Token.{Token}
use Rattle.est_lexer.specs.declared.kind.TokenKind.{TokenKind}
use Rattle.est_lexer.specs.Spans.{spelling}
use Rattle.text_printer.specs.declared.printer.Printer.{Printer}
use Rattle.text_printer.specs.Putting.{Put, IsLaid, l_more, count, gap, next_token}
use Rattle.text_printer.specs.Printing.{Extends, Grows}

get_seam : {T : Type 0} (xs : List T) (y : T) (ys : List T)
    → slice_get (xs ++ y ∷ ys) (length xs) ≡ Some y
get_seam [] y ys = refl
get_seam (x ∷ xs) y ys = get_seam xs y ys

-- what stands behind two lists
behind : (xs ys zs : List ℕ) (more : List ℕ)
    → drop (length xs + length ys) ((xs ++ (ys ++ zs)) ++ more) ≡ zs ++ more
behind xs ys zs more =
    let e : (xs ++ (ys ++ zs)) ++ more ≡ (xs ++ ys) ++ (zs ++ more) = simp append_assoc in
    ap (drop (length xs + length ys)) e
    ∙ drop_at (xs ++ ys) (zs ++ more) (length xs + length ys) (length-append xs ys)

module _ {k : TokenKind} {bytes : List ℕ} {A B : Printer} (p : Put k bytes A B) where
  pub put_extends : (text : List ℕ) (s : List Token) → Extends B text s → Extends A text s
  put_extends text s x = record {
    later = (gap A k ++ bytes) ++ x.later;
    text_is = x.text_is ∙ ap (λ r. r ++ x.later) p.text
        ∙ append_assoc A.text.items (gap A k ++ bytes) x.later;
    more = next_token A k bytes ∷ x.more;
    tokens_are = x.tokens_are ∙ ap (λ r. r ++ x.more) p.tokens
        ∙ append_assoc A.tokens.items (next_token A k bytes ∷ []) x.more;
  }

  pub put_count : suc (count A) ≡ count B
  put_count = omega (
    arith,
    ap length p.tokens,
    length-append A.tokens.items (next_token A k bytes ∷ []),
  )

  pub put_laid : IsLaid A → IsLaid B
  put_laid l = record { laid = rw (p.text, p.tokens, p.last, p.nested) (l_more k bytes l.laid) }

  pub put_grows : Grows A B
  put_grows = record {
    well = p.well;
    extends = put_extends;
    onward = omega (arith, put_count);
    laid = put_laid;
  }

  -- it stands at its place
  pub put_there : (text : List ℕ) (s : List Token) → Extends B text s
      → slice_get s (count A) ≡ Some (next_token A k bytes)
  put_there text s x =
      let e : s ≡ A.tokens.items ++ next_token A k bytes ∷ x.more =
      x.tokens_are ∙ ap (λ r. r ++ x.more) p.tokens
      ∙ append_assoc A.tokens.items (next_token A k bytes ∷ []) x.more in
      ap (λ r. slice_get r (count A)) e
      ∙ get_seam A.tokens.items (next_token A k bytes) x.more

  -- with its bytes
  pub put_spelled : (text : List ℕ) (s : List Token) → Extends B text s
      → spelling text (next_token A k bytes) ≡ bytes
  put_spelled text s x =
      let n = length A.text.items + length (gap A k) in
      let e : drop n text ≡ bytes ++ x.later =
      ap (λ r. drop n r) (x.text_is ∙ ap (λ r. r ++ x.later) p.text)
      ∙ behind A.text.items (gap A k) bytes x.later in
      ap (λ m. take m (drop n text)) (omega arith) ∙ ap (take (length bytes)) e
      ∙ take_at bytes x.later (length bytes) refl
