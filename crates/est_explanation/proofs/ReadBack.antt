-- What is written is read as what it was written of.
use Rattle.std.proofs.Common.{◌≡◌, ℕ, ◌≤◌, List, [], ◌∷◌, ◌++◌, length, drop, refl}
use Rattle.std.proofs.Common.{subst, ◌∙◌, arith, length-append, length-drop}
use Rattle.std.specs.Prelude.{Result, Ok, Err}
use Rattle.std.proofs.lemmas.List.{drop_at}
use Rattle.est_lexer.specs.declared.kind.Token.{Token}
use Rattle.est_lexer.specs.Between.{IsBetween, nothing}
use Rattle.est_lexer.specs.TokenList.{IsTokenList}
use Rattle.est_lexer.proofs.Unique.{tokens_unique}
use Rattle.text_reader.specs.Grammar.{Tree}
use Rattle.text_reader.specs.Sentences.{HasTree}
use Rattle.text_reader.specs.Shown.{Shows, node}
use Rattle.text_reader.proofs.OneTree.{at_most_one_tree, decides}
use Rattle.text_reader.proofs.Trees.{tree_inside}
use Rattle.text_reader.specs.Tests.{apart}
use Rattle.text_reader.specs.Going.{Shape}
use Rattle.text_reader.proofs.Apart.{apart-holds}
use Rattle.est_explanation.specs.declared.error.ExplanationError.{ExplanationError}
use Rattle.est_explanation.specs.declared.error.ExplanationError.TheVariants.{BadToken, Memory}
use Rattle.est_explanation.specs.declared.explanation.Explanation.{Explanation}
use Rattle.est_explanation.specs.ExplanationGrammar.{marks, explanation}
use Rattle.est_explanation.specs.ExplanationNodes.{an_explanation, layer}
use Rattle.est_explanation.specs.ExplanationText.{explanations, IsExplanationText}
use Rattle.est_explanation.specs.ExplanationText.{IsOnlyExplanationText, ReadsExplanation}
use Rattle.est_explanation.specs.ExplanationLaws.{IsReadBack}
use Rattle.est_explanation.specs.CanonicalExplanation.{canonical, IsWritable}
use Rattle.est_explanation.proofs.Explaining.{fits}
use Rattle.est_explanation.proofs.OneExplanation.{one_explanation}
use Rattle.est_explanation.proofs.Words.{tokens_at, text_of, are_tokens, are_written}
use Rattle.est_explanation.proofs.Words.{AreWritten, apart_whole}
use Rattle.est_explanation.proofs.CanonicalWords.{words_of, words_text, words_apart}
use Rattle.est_explanation.proofs.CanonicalTrees.{Reads, whole}

-- no token is left where no word is
none_left : (text : List ℕ) (ts : List Token) → AreWritten text ts [] → length ts ≡ 0
none_left text [] h = refl
none_left text (t ∷ ts) h = elim h [ ]

all_read : (text : List ℕ) (s : List Token) (x : Explanation)
    → Reads text s explanation (node (an_explanation x)) 0 [] → IsExplanationText text s x
all_read text s x r =
    let left = none_left text (drop r.last s) r.rest in
    let within = tree_inside (explanations text) s (length s) r.tree (omega arith) in
    let end : r.last ≡ length s = omega (arith, length-drop r.last s) in (
      r.shape,
      subst (λ n. Tree (explanations text) s (length s) explanation 0 0 n r.shape) end r.tree,
      r.shows,
    )

one_shape : (text : List ℕ) (s : List Token) (t u : Shape)
    → HasTree (explanations text) explanation 0 s t → HasTree (explanations text) explanation 0 s u
    → t ≡ u
one_shape text s t u x y =
    at_most_one_tree (explanations text) marks explanation 0 0 s t u (fits text)
    (λ name. elim name [ ])
    (decides (explanations text) marks apart (λ a b v h q r. apart-holds text a b v h q r)
    explanation refl) x y

-- an explanation that has a text is the only one that has it
pub only : (text : List ℕ) (s : List Token) (x : Explanation) → IsExplanationText text s x
    → IsOnlyExplanationText text s x
only text s x h = (
  h,
  λ y q. one_explanation y x
      (subst (λ t. Shows layer (node (an_explanation y)) t) (one_shape text s q.0 h.0 q.1 h.1)
      q.2) h.2,
)

-- the canonical text, after blanks and comments
pub read_back : (front : List ℕ) (x : Explanation) (tokens : List Token) → IsWritable x
    → IsBetween (front ++ canonical x) 0 (length front)
    → IsTokenList (front ++ canonical x) tokens
    → IsOnlyExplanationText (front ++ canonical x) tokens x
read_back front x tokens w between h =
    let text = front ++ canonical x in
    let ws = words_of x in
    let s = tokens_at (length front) ws in
    let e : drop (length front) text ≡ text_of ws =
    drop_at front (canonical x) (length front) refl ∙ words_text x in
    let inside : length front ≤ length text =
    omega (arith, length-append front (canonical x)) in
    let list = are_tokens text 0 (length front) ws between inside e
    (apart_whole ws (words_apart x w)) in
    let r = whole text s x w (are_written text (length front) ws e) in
    subst (λ ts. IsOnlyExplanationText text ts x) (tokens_unique text 0 s tokens list h)
    (only text s x (all_read text s x r))

-- the answer to a text of one explanation alone
pub answered : (text : List ℕ) (tokens : List Token) (x : Explanation)
    (answer : Result Explanation ExplanationError) → IsOnlyExplanationText text tokens x
    → ReadsExplanation text tokens answer → IsReadBack x answer
answered text tokens x (Ok y) h r = h.1 y r.0
answered text tokens x (Err (BadToken place)) h r = r.no_tree h.0.0 h.0.1
answered text tokens x (Err (Memory error)) h r = tt

pub canonical_is_text : (x : Explanation) (tokens : List Token) → IsWritable x
    → IsTokenList (canonical x) tokens → IsOnlyExplanationText (canonical x) tokens x
canonical_is_text x tokens w h = read_back [] x tokens w (nothing 0) h
