-- Tokens that are spelled in the one way from one place up to another.
use Rattle.std.proofs.Common.{◌≡◌, ℕ, suc, ◌<◌, ◌≤◌, inl, inr, List, subst, arith, Some, slice_get}
use Rattle.std.proofs.lemmas.Bool.{cases_lt}
use Rattle.est_lexer.specs.declared.kind.Token.{Token}
use Rattle.est_lexer.specs.Spans.{spelling}
use Rattle.text_printer.specs.PlainSpelling.{IsSpelledPlainly}
use Rattle.text_printer.specs.Printing.{AreSpelledWithin}

module _ {text : List ℕ} {s : List Token} where
  pub within_none : (a : ℕ) → AreSpelledWithin text s a a
  within_none a = record { spelled = λ place token l h e. absurd (omega arith) }

  pub within_one : (a : ℕ) (x : Token) → slice_get s a ≡ Some x
      → IsSpelledPlainly x.kind (spelling text x) → AreSpelledWithin text s a (suc a)
  within_one a x there p = record { spelled = here }
    where
      here : (place : ℕ) (token : Token) → a ≤ place → place < suc a
          → slice_get s place ≡ Some token → IsSpelledPlainly token.kind (spelling text token)
      here place token l h e =
          let at : place ≡ a = omega arith in
          let same : slice_get s a ≡ Some token =
          subst (λ n. slice_get s n ≡ Some token) at e in
          let one : x ≡ token = cc in
          subst (λ (t : Token). IsSpelledPlainly t.kind (spelling text t)) one p

  pub within_both : (a b c : ℕ) → AreSpelledWithin text s a b → AreSpelledWithin text s b c
      → AreSpelledWithin text s a c
  within_both a b c x y = record {
    spelled = λ place token l h e. elim (cases_lt place b) [
      | inl k ↦ x.spelled place token l k e
      | inr k ↦ y.spelled place token k h e
    ];
  }
