-- From what the parser answers to the beginnings of specifications.
use Rattle.std.proofs.Common.{◌≡◌, ℕ, ◌≤◌, List, length, Bool, true, refl, subst, arith}
use Rattle.std.proofs.Common.{Result, Ok, Err, IfOk}
use Rattle.est_lexer.specs.declared.kind.Token.{Token}
use Rattle.est_lexer.specs.TokenList.{IsTokenList}
use Rattle.est_syntax.specs.declared.specification.Spec.{Spec}
use Rattle.text_reader.specs.Grammar.{p_whole, rule}
use Rattle.text_reader.specs.Sentences.{HasPartial}
use Rattle.text_productions.specs.Productions.{specification}
use Rattle.est_grammar.specs.Answer.{HasOneTree, IsRefusal, estelle_in, levels}
use Rattle.est_grammar.specs.declared.error.ParseError.{ParseError}
use Rattle.est_grammar.specs.declared.error.ParseError.TheVariants.{BadToken}
use Rattle.advice_tokens.specs.Beginnings.{AreBeginning, IsBeginning}

-- A specification is one.
pub whole : (text other : List ℕ) (tokens : List Token) (spec : Spec) → other ≡ text
    → IsTokenList text tokens → HasOneTree other tokens spec → IsBeginning text
whole text other tokens spec e l h =
    let tree : HasOneTree text tokens spec = subst (λ t. HasOneTree t tokens spec) e h
    in record { tokens = tokens; of_text = l; partial = p_whole tree.tree refl }

-- So are tokens that are refused at their end.
pub at_end : (text : List ℕ) (tokens : List Token) (place : ℕ) → length tokens ≤ place
    → IsRefusal text tokens (BadToken place) → AreBeginning text tokens
at_end text tokens place m h =
    let inside : place ≤ length tokens = h.0.0.inside
    in let end : place ≡ length tokens = omega (arith, m, inside)
    in subst (HasPartial (estelle_in text) (rule specification) levels tokens) end h.0.0.front

-- So is their text.
pub early : {E : Type 0} (text other : List ℕ) (tokens : List Token) (error : ParseError)
    (r : Result Bool E) → other ≡ text → IsTokenList text tokens → IsRefusal other tokens error
    → IfOk r (λ is. is ≡ true → IsRefusal other tokens error → AreBeginning other tokens)
    → IfOk r (λ is. is ≡ true → IsBeginning text)
early text other tokens error (Ok is) e l h k = λ t.
    let partial : AreBeginning text tokens = subst (λ o. AreBeginning o tokens) e (k t h)
    in record { tokens = tokens; of_text = l; partial = partial }
early text other tokens error (Err _) e l h k = tt
