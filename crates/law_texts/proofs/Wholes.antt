-- Words that are whole before any text that may stand after them.
use Rattle.std.proofs.Common.{◌≡◌, ℕ, true, false, List, [], ◌∷◌, ◌++◌, get_or, sym, ap, subst}
use Rattle.std.proofs.Common.{◌∙◌, append_assoc, eqb}
use Rattle.std.specs.List.{list_all}
use Rattle.std.proofs.lemmas.List.{append-nil}
use Rattle.est_lexer.specs.declared.kind.TokenKind.{TokenKind}
use Rattle.est_lexer.specs.Between.{is_blank}
use Rattle.est_lexer.specs.Spellings.{is_identifier_part}
use Rattle.text_printer.proofs.Standing.{Stands}
use Rattle.est_explanation.proofs.Words.{Written, IsWhole, AreWhole, text_of, text_append}

-- No name and no number goes on into the text, and it makes no comment of a `(` before it.
pub record Ends (rest : List ℕ) : Type 0 where
  pub no_part : is_identifier_part (get_or rest 0 0) ≡ false
  pub no_star : eqb (get_or rest 0 0) 42 ≡ false

-- each of the words is whole, where this text stands after them
abbrev pub AreWholeBefore : List Written → List ℕ → Type 0
AreWholeBefore [] rest = Unit {0}
AreWholeBefore (w ∷ ws) rest =
    IsWhole w (w.gap ++ (text_of ws ++ rest)) × AreWholeBefore ws rest

pub whole_append : (ws vs : List Written) (rest : List ℕ) → AreWholeBefore ws (text_of vs ++ rest)
    → AreWholeBefore vs rest → AreWholeBefore (ws ++ vs) rest
whole_append [] vs rest h k = k
whole_append (w ∷ ws) vs rest h k =
    let e : text_of (ws ++ vs) ++ rest ≡ text_of ws ++ (text_of vs ++ rest) =
    ap (λ t. t ++ rest) (text_append ws vs) ∙ append_assoc (text_of ws) (text_of vs) rest in
    (subst (λ r. IsWhole w (w.gap ++ r)) (sym e) h.0, whole_append ws vs rest h.1 k)

-- where nothing stands after them
pub all_whole : (ws : List Written) → AreWholeBefore ws [] → AreWhole ws
all_whole [] h = tt
all_whole (w ∷ ws) h =
    (subst (λ r. IsWhole w (w.gap ++ r)) (append-nil (text_of ws)) h.0, all_whole ws h.1)

-- a token that stands whole is such a word, with any blanks after it
pub standing_whole : (kind : TokenKind) (bytes gap rest : List ℕ) → list_all is_blank gap ≡ true
    → Stands kind bytes rest
    → IsWhole (record { kind = kind; bytes = bytes; gap = gap }) rest
standing_whole kind bytes gap rest b h =
    record { longest = h.longest; may_begin = h.may_begin; blanks = b }
