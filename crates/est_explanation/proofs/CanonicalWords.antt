-- The words of the canonical text of an explanation.
use Rattle.std.proofs.Common.{◌≡◌, ℕ, ◌<◌, ◌^◌, true, List, [], ◌∷◌, ◌++◌, refl}
use Rattle.std.proofs.Common.{ap, ◌∙◌, arith, append_assoc, flat_map}
use Rattle.std.specs.Prelude.{All, codes}
use Rattle.std.specs.Fmt.{decimal}
use Rattle.std.proofs.lemmas.Fmt.{decimal_digit}
use Rattle.std.proofs.lemmas.List.Elements.{All-head, All-tail}
use Rattle.est_lexer.specs.declared.kind.TokenKind.TheVariants.{Number}
use Rattle.est_lexer.specs.Between.{is_blank}
use Rattle.est_lexer.specs.Spellings.{name_kind}
use Rattle.est_meaning.specs.declared.firing.Firing.{Firing}
use Rattle.est_meaning.specs.declared.run.Move.{Move}
use Rattle.est_meaning.specs.declared.run.Move.TheVariants.{Take, Fire}
use Rattle.est_explanation.specs.declared.explanation.Explanation.{Explanation}
use Rattle.est_explanation.specs.CanonicalExplanation.{canonical, move_line, claim_line}
use Rattle.est_explanation.specs.CanonicalExplanation.{IsWritable, IsWritableMove, IsWritableFiring}
use Rattle.est_explanation.proofs.Words.{Written, before_blank, text_of, text_append, AreApart}
use Rattle.est_explanation.proofs.Words.{IsApart, name_apart, number_apart, apart_append}
use Rattle.est_explanation.proofs.Numerals.{decimal_is_number}

-- a word that is a name, and a byte after it
abbrev pub named : List ℕ → ℕ → Written
named bytes b = before_blank (name_kind bytes) bytes b

-- a number, and a byte after it
abbrev pub numeral : ℕ → ℕ → Written
numeral n b = before_blank Number (decimal n) b

-- the words of a firing, after the first
abbrev pub firing_words : Firing → List Written
firing_words firing =
    numeral firing.instance 32 ∷ numeral firing.transition 32 ∷ numeral firing.choice 10 ∷ []

-- the words of a move
abbrev pub move_words : Move → List Written
move_words Take = named (codes "take") 10 ∷ []
move_words (Fire firing) = named (codes "fire") 32 ∷ firing_words firing

-- the words of the claim
abbrev pub claim_words : ℕ → List Written
claim_words claim = named (codes "yields") 32 ∷ numeral claim 10 ∷ []

-- the words of an explanation
abbrev pub words_of : Explanation → List Written
words_of x =
    named (codes "explanation") 32 ∷ numeral 1 10 ∷ (flat_map move_words x.moves
    ++ claim_words x.claim)

move_text : (move : Move) → text_of (move_words move) ≡ move_line move
move_text Take = refl
move_text (Fire firing) = simp append_assoc

moves_text : (moves : List Move) → text_of (flat_map move_words moves) ≡ flat_map move_line moves
moves_text [] = refl
moves_text (move ∷ moves) =
    text_append (move_words move) (flat_map move_words moves)
    ∙ ap (λ r. r ++ text_of (flat_map move_words moves)) (move_text move)
    ∙ ap (λ r. move_line move ++ r) (moves_text moves)

claim_text : (claim : ℕ) → text_of (claim_words claim) ≡ claim_line claim
claim_text claim = simp append_assoc

-- they are its canonical text
pub words_text : (x : Explanation) → canonical x ≡ text_of (words_of x)
words_text x =
    let tail : text_of (flat_map move_words x.moves ++ claim_words x.claim)
    ≡ flat_map move_line x.moves ++ claim_line x.claim =
    text_append (flat_map move_words x.moves) (claim_words x.claim)
    ∙ ap (λ r. r ++ text_of (claim_words x.claim)) (moves_text x.moves)
    ∙ ap (λ r. flat_map move_line x.moves ++ r) (claim_text x.claim) in
    let one : decimal 1 ≡ 49 ∷ [] = decimal_digit 1 (omega arith) in
    rw (tail, one) (simp append_assoc)

numeral_apart : (n b : ℕ) → n < 10 ^ 18 → is_blank b ≡ true → IsApart (numeral n b)
numeral_apart n b h e = number_apart (decimal n) b (decimal_is_number n h) e

firing_apart : (firing : Firing) → IsWritableFiring firing → AreApart (firing_words firing)
firing_apart firing w =
    let instance = numeral_apart firing.instance 32 (omega (arith, w.instance)) refl in
    let transition = numeral_apart firing.transition 32 (omega (arith, w.transition)) refl in
    let choice = numeral_apart firing.choice 10 (omega (arith, w.choice)) refl in
    (instance, (transition, (choice, tt)))

move_apart : (move : Move) → IsWritableMove move → AreApart (move_words move)
move_apart Take w = (name_apart (codes "take") 10 refl refl, tt)
move_apart (Fire firing) w = (name_apart (codes "fire") 32 refl refl, firing_apart firing w)

moves_apart : (moves : List Move) → All IsWritableMove moves
    → AreApart (flat_map move_words moves)
moves_apart [] w = tt
moves_apart (move ∷ moves) w =
    apart_append (move_words move) (flat_map move_words moves)
    (move_apart move (All-head IsWritableMove move moves w))
    (moves_apart moves (All-tail IsWritableMove move moves w))

claim_apart : (claim : ℕ) → claim < 10 ^ 18 → AreApart (claim_words claim)
claim_apart claim h =
    (name_apart (codes "yields") 32 refl refl, (numeral_apart claim 10 h refl, tt))

-- each of them stands apart
pub words_apart : (x : Explanation) → IsWritable x → AreApart (words_of x)
words_apart x w =
    let moves = moves_apart x.moves w.moves in
    let claim = claim_apart x.claim (omega (arith, w.claim)) in
    let rest = apart_append (flat_map move_words x.moves) (claim_words x.claim) moves claim in (
      name_apart (codes "explanation") 32 refl refl,
      (numeral_apart 1 10 (omega arith) refl, rest),
    )
