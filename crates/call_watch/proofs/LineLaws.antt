-- The lines of a text.
use Rattle.std.proofs.Common.{◌≡◌, ℕ, true, false, List, [], ◌∷◌, ◌++◌, All}
use Rattle.std.proofs.Common.{sym, subst, refl, append_assoc, ◌⊎◌, inl, inr, arith}
use Rattle.std.proofs.lemmas.List.Elements.{All-nil, All-cons, All-head, All-tail, All-append}
use Rattle.call_watch.specs.Lines.{Line, line, AreLines, no_lines, last_line, fed_line, HasNoFeed}

-- a number is this one or another
pub is_feed : (b : ℕ) → (b ≡ 10) ⊎ (b ≡ 10 → ⊥)
is_feed b = grind arith

-- a byte is no line feed
single : (b : ℕ) → (b ≡ 10 → ⊥) → HasNoFeed (b ∷ [])
single b other = All-cons (λ (b : ℕ). b ≡ 10 → ⊥) b [] other (All-nil (λ (b : ℕ). b ≡ 10 → ⊥))

-- a byte more, which is no line feed, stands before the first line
before_first : (b : ℕ) → (b ≡ 10 → ⊥) → {rest : List ℕ} {lines : List Line} → AreLines rest lines
    → (more : List Line) × AreLines (b ∷ rest) more
before_first b other no_lines =
    (line (b ∷ []) false ∷ [], last_line (b ∷ []) (λ e. cc) (single b other))
before_first b other (last_line bytes some none) = (
  line (b ∷ bytes) false ∷ [],
  last_line (b ∷ bytes) (λ e. cc) (All-cons (λ (b : ℕ). b ≡ 10 → ⊥) b bytes other none),
)
before_first b other (fed_line bytes rest lines none are) = (
  line (b ∷ bytes) true ∷ lines,
  fed_line (b ∷ bytes) rest lines (All-cons (λ (b : ℕ). b ≡ 10 → ⊥) b bytes other none) are,
)

-- each text has its lines
pub lines_of : (text : List ℕ) → (lines : List Line) × AreLines text lines
lines_of [] = ([], no_lines)
lines_of (b ∷ rest) =
    let r = lines_of rest in
    elim (is_feed b) [
      | inl same ↦ subst (λ (d : ℕ). (lines : List Line) × AreLines (d ∷ rest) lines) (sym same)
          (line [] true ∷ r.0, fed_line [] rest r.0 (All-nil (λ (b : ℕ). b ≡ 10 → ⊥)) r.1)
      | inr other ↦ before_first b other r.1
    ]

-- lines that all have their line feed, and then more lines
pub lines-append : {front rest : List ℕ} {lines more : List Line} → AreLines front lines
    → All (λ (l : Line). l.fed ≡ true) lines → AreLines rest more
    → AreLines (front ++ rest) (lines ++ more)
lines-append no_lines fed are = are
lines-append (last_line bytes some none) fed are =
    absurd (never (All-head (λ (l : Line). l.fed ≡ true) (line bytes false) [] fed))
  where
    never : false ≡ true → ⊥
    never e = cc
lines-append {rest = rest} {more = more} (fed_line bytes behind lines none then) fed are =
    subst (λ (t : List ℕ). AreLines t (line bytes true ∷ (lines ++ more)))
    (sym (append_assoc bytes (10 ∷ behind) rest))
    (fed_line bytes (behind ++ rest) (lines ++ more) none
    (lines-append then (All-tail (λ (l : Line). l.fed ≡ true) (line bytes true) lines fed) are))

-- lines, and one more with its line feed, and then more lines
pub lines-fed : {front rest : List ℕ} {lines more : List Line} (bytes : List ℕ)
    → AreLines front lines
    → All (λ (l : Line). l.fed ≡ true) lines → HasNoFeed bytes → AreLines rest more
    → AreLines ((front ++ bytes) ++ 10 ∷ rest) (lines ++ line bytes true ∷ more)
lines-fed {front} {rest} {lines} {more} bytes are fed none then =
    subst (λ (t : List ℕ). AreLines t (lines ++ line bytes true ∷ more))
    (sym (append_assoc front bytes (10 ∷ rest)))
    (lines-append are fed (fed_line bytes rest more none then))

-- lines, and a last one without a line feed
pub lines-last : {front : List ℕ} {lines : List Line} (bytes : List ℕ) → AreLines front lines
    → All (λ (l : Line). l.fed ≡ true) lines → (bytes ≡ [] → ⊥) → HasNoFeed bytes
    → AreLines (front ++ bytes) (lines ++ line bytes false ∷ [])
lines-last bytes are fed some none = lines-append are fed (last_line bytes some none)

-- one more with its line feed: all have one
pub fed-more : (bytes : List ℕ) (lines : List Line) → All (λ (l : Line). l.fed ≡ true) lines
    → All (λ (l : Line). l.fed ≡ true) (lines ++ line bytes true ∷ [])
fed-more bytes lines fed = All-append (λ (l : Line). l.fed ≡ true) lines (line bytes true ∷ [])
    fed (All-cons (λ (l : Line). l.fed ≡ true) (line bytes true) [] refl
    (All-nil (λ (l : Line). l.fed ≡ true)))

-- a line that has no line feed yet has none with a byte more that is none
pub no_feed-more : (bytes : List ℕ) (b : ℕ) → (b ≡ 10 → ⊥) → HasNoFeed bytes
    → HasNoFeed (bytes ++ b ∷ [])
no_feed-more bytes b other none = All-append (λ (b : ℕ). b ≡ 10 → ⊥) bytes (b ∷ []) none
    (single b other)
