-- From what a reader of an explanation does to the answer.
use Rattle.std.proofs.Common.{◌≡◌, sym, subst, Result, Ok, Err}
use Rattle.std.specs.Result.{IsErr, IsErrAnd}
use Rattle.est_lexer.specs.declared.tokens.Tokens.{Tokens}
use Rattle.est_lexer.specs.Offsets.{text_of, tokens_of}
use Rattle.text_reader.specs.Shown.{Shows, node}
use Rattle.text_reader.specs.declared.reader.Reader.{Reader}
use Rattle.text_reader.specs.declared.refusal.Refusal.{Refusal}
use Rattle.text_reader.specs.declared.refusal.Refusal.TheVariants.{BadToken, TooDeep, Memory}
use Rattle.text_reader.specs.Going.{Goes}
use Rattle.text_reader.specs.Whole.{Starts, Finishes}
use Rattle.text_reader.proofs.Whole.{whole_read, whole_refused}
use Rattle.est_explanation.specs.declared.explanation.Explanation.{Explanation}
use Rattle.est_explanation.specs.declared.error.ExplanationError.{ExplanationError}
use Rattle.est_explanation.specs.ExplanationErrors.{of_refusal}
use Rattle.est_explanation.specs.ExplanationGrammar.{explanation}
use Rattle.est_explanation.specs.ExplanationNodes.{layer, an_explanation, explaining}
use Rattle.est_explanation.specs.ExplanationText.{IsOnlyExplanationText}
use Rattle.est_explanation.specs.ExplanationText.{IsExplanationRefusal, ReadsExplanation}
use Rattle.est_explanation.proofs.Explaining.{known}
use Rattle.est_explanation.proofs.OneExplanation.{one_explanation}

module _ {tokens : Tokens} {A B : Reader} {x : Explanation} (g : Goes explaining explanation A
    (node (an_explanation x)) B) (s : Starts tokens 0 A) where
  pub read : {y : Explanation} → Finishes B x (Ok y)
      → ReadsExplanation (text_of tokens) (tokens_of tokens) (Ok y)
  read h =
      let r = whole_read known g s h in
      subst (IsOnlyExplanationText (text_of tokens) (tokens_of tokens)) (sym h.0) (
        (r.0, r.1, r.2),
        λ z q. one_explanation z x
            (subst (λ t. Shows layer (node (an_explanation z)) t) (r.3 q.0 q.1) q.2) r.2,
      )

  pub refused : (error : Refusal) → Finishes B x (Err error)
      → IsExplanationRefusal (text_of tokens) (tokens_of tokens) (of_refusal error)
  refused (BadToken place) h = (whole_refused known g s (BadToken place) h).0
  refused (TooDeep place) h = (whole_refused known g s (TooDeep place) h).0
  refused (Memory error) h = tt

  -- the answer has this error
  pub answered : (error : Refusal) (r : Result Explanation ExplanationError)
      → Finishes B x (Err error) → IsErr r × IsErrAnd r (λ e. e ≡ of_refusal error)
      → ReadsExplanation (text_of tokens) (tokens_of tokens) r
  answered error (Ok z) h (never, is) = cc
  answered error (Err e) h is = subst (IsExplanationRefusal (text_of tokens) (tokens_of tokens))
      (sym is.1) (refused error h)
