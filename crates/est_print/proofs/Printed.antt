-- What the printer of a specification prints is the printed text.
use Rattle.std.proofs.Common.{◌≡◌, ℕ, ◌+◌, ◌-◌, ◌<◌, false, List, [], ◌∷◌, ◌++◌, length, take, drop}
use Rattle.std.proofs.Common.{refl, sym, ◌∙◌, ap, subst, arith, Option, None, slice_get}
use Rattle.std.proofs.Common.{length-append}
use Rattle.std.specs.Prelude.{slice_range, Result, Ok, Err, IfOk}
use Rattle.std.proofs.lemmas.List.{drop_at, append-nil}
use Rattle.std.proofs.lemmas.Option.{slice_get_within}
use Rattle.est_lexer.specs.declared.kind.Token.{Token}
use Rattle.est_lexer.specs.declared.kind.TokenKind.{TokenKind}
use Rattle.est_lexer.proofs.TokenLaws.{token_kinds}
use Rattle.text_reader.specs.Grammar.{rule, Tree}
use Rattle.text_reader.specs.Shown.{node}
use Rattle.text_reader.specs.Sentences.{HasTree}
use Rattle.text_reader.specs.Tests.{language}
use Rattle.est_syntax.specs.declared.specification.Spec.{Spec}
use Rattle.text_productions.specs.Productions.{specification}
use Rattle.text_productions.specs.Nodes.{a_specification}
use Rattle.est_grammar.specs.Answer.{levels}
use Rattle.text_printer.specs.declared.printer.Printer.{Printer}
use Rattle.text_printer.specs.PlainNodes.{estelle}
use Rattle.text_printer.specs.PlainSpelling.{AreSpelledPlainly}
use Rattle.text_printer.specs.Putting.{count, Starts, Ends, Laid, l_none, IsLaid}
use Rattle.text_printer.specs.Printing.{plain_production, Extends, is_else, no_else, Printed}
use Rattle.text_printer.specs.Printing.{Prints}
use Rattle.text_printer.specs.Spacing.{AreSpacedFrom}
use Rattle.est_print.specs.PrintedText.{IsPrintedText, IsOfSentence}
use Rattle.est_print.proofs.Spaced.{IsSpaced, q_none, q_some, laid_spaced, spaced_from}
use Rattle.est_print.proofs.Tokens.{laid_tokens}
use Rattle.est_print.proofs.Tidy.{some_tokens, tokens_apart}

none_behind : {T : Type 0} (xs : List T) → slice_get xs (length xs) ≡ None
none_behind [] = refl
none_behind (x ∷ xs) = none_behind xs

-- what stands behind the last token
last_byte : (text : List ℕ)
    → slice_range (text ++ 10 ∷ []) (length text) (length (text ++ 10 ∷ [])) ≡ 10 ∷ []
last_byte text =
    let e : length (text ++ 10 ∷ []) - length text ≡ 1 =
    omega (arith, length-append text (10 ∷ [])) in
    ap (λ n. take n (drop (length text) (text ++ 10 ∷ []))) e
    ∙ ap (take 1) (drop_at text (10 ∷ []) (length text) refl)

spaced : {text : List ℕ} {tokens : List Token} {last : Option TokenKind} {nested : ℕ}
    → 0 < length tokens → Laid text tokens last nested
    → AreSpacedFrom (text ++ 10 ∷ []) 0 0 tokens
spaced {text} some l = by some (laid_spaced (text ++ 10 ∷ []) l (10 ∷ []) refl) (last_byte text)
  where
    by : {text whole : List ℕ} {tokens : List Token} {last : Option TokenKind} {nested : ℕ}
        → 0 < length tokens → IsSpaced whole text tokens last nested
        → slice_range whole (length text) (length whole) ≡ 10 ∷ []
        → AreSpacedFrom whole 0 0 tokens
    by some q_none e = absurd (omega arith)
    by {whole = whole} some (q_some z s) e = spaced_from whole s e

starts_laid : (A : Printer) → Starts A → IsLaid A
starts_laid A s = record { laid = rw (s.text, s.tokens, s.last, s.nested) l_none }

module _ (spec : Spec) (A B : Printer) (h : IsOfSentence spec) (a : Starts A)
    (p : Prints estelle (rule specification) (node (a_specification spec)) A B)
    (well : B.spent ≡ false) where
  abbrev pub text : List ℕ
  text = B.text.items ++ 10 ∷ []

  abbrev pub tokens : List Token
  tokens = B.tokens.items

  extends : Extends B text tokens
  extends = record {
    later = 10 ∷ [];
    text_is = refl;
    more = [];
    tokens_are = sym (append-nil B.tokens.items);
  }

  printed : Printed estelle no_else (rule specification) levels (node (a_specification spec)) A B
      text tokens (slice_get h.read 0)
  printed = p.without well h.source h.read levels 0 (length h.read) h.tree.shape
      (token_kinds h.source 0 h.read h.listed) h.tree.tree h.tree.shows text tokens extends
      (ap is_else (none_behind tokens))

  none_yet : count A ≡ 0
  none_yet = ap length a.tokens

  tree : HasTree (language (plain_production estelle) text) (rule specification) levels tokens
      printed.shape
  tree = subst (λ (a : ℕ). Tree (language (plain_production estelle) text) tokens (length tokens)
      (rule specification) levels a (length tokens) printed.shape) none_yet printed.tree

  spelled : AreSpelledPlainly text tokens
  spelled place token e = printed.spelled.spelled place token (omega (arith, none_yet))
      (slice_get_within tokens place token e) e

  laid : IsLaid B
  laid = (p.grows well).laid (starts_laid A a)

  pub is_printed : IsPrintedText spec text
  is_printed = record {
    tokens = tokens;
    list = laid_tokens laid.laid
        (record { spelled = spelled; apart = tokens_apart text tokens tree });
    plain = record { shape = printed.shape; tree = tree; tells = printed.tells };
    spelled = spelled;
    spaced = spaced (some_tokens text tokens tree) laid.laid;
  }

-- what is told where the text is finished
pub finished : {T E : Type 0} (items : T → List ℕ) (spec : Spec) (A B : Printer) (r : Result T E)
    → IsOfSentence spec → Starts A
    → Prints estelle (rule specification) (node (a_specification spec)) A B
    → IfOk r (λ t. Ends B (items t)) → IfOk r (λ t. IsPrintedText spec (items t))
finished items spec A B (Ok t) h a p e =
    subst (IsPrintedText spec) (sym e.text_is) (is_printed spec A B h a p e.well)
finished items spec A B (Err e) h a p i = tt
