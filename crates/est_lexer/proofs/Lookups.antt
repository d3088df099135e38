use Rattle.std.proofs.Common.{◌≡◌, ◌≤◌, ◌<◌, ◌+◌, ℕ, suc, zero, List, [], ◌∷◌}
use Rattle.std.proofs.Common.{length, get_or, drop, map, arith, Bool, true, false}
use Rattle.std.proofs.Common.{eqb, refl, sym, ◌∙◌, Option, Some, None, Bor}
use Rattle.std.specs.List.{find, list_all}
use Rattle.std.specs.Bool.{Decides, ◌==◌}
use Rattle.std.specs.Option.{option_or}
use Rattle.std.proofs.lemmas.Bool.{and_parts, and_left, eqb-true, ne_eqb}
use Rattle.std.proofs.lemmas.List.Folds.{find-append}
use Rattle.std.specs.Str.{str_eq_ignore_ascii_case}
use Rattle.std.specs.Char.{to_ascii_lowercase, is_ascii_alphabetic}
use Rattle.std.proofs.lemmas.Bool.Decides.{nat_tests}
use Rattle.std.proofs.lemmas.List.{get_or-map, length-map}
use Rattle.std.proofs.lemmas.Slice.Eq.{bytes_eq-Decides}
use Rattle.est_lexer.specs.inside.Scanning.{rows, groups, all_of, is_by_letter}
use Rattle.est_lexer.specs.Words.{Word}
use Rattle.est_lexer.specs.declared.kind.TokenKind.{TokenKind}

-- The row of a table that the code reads.
abbrev pub row : Bor (List ℕ) × TokenKind → Word
row w = (w.0.now, w.1)

-- The first row that passes, from one that does not pass on.
pub find_more : (p : Word → Bool) (table : List (Bor (List ℕ) × TokenKind)) (i : ℕ)
    (d : Bor (List ℕ) × TokenKind) → i < length table → p (row (get_or table i d)) ≡ false
    → find p (drop (suc i) (rows table)) ≡ find p (drop i (rows table))
find_more p [] i d h fails = absurd (omega arith)
find_more p (w ∷ ws) zero d h fails = rw fails refl
find_more p (w ∷ ws) (suc i) d h fails = find_more p ws i d (omega arith) fails

-- The first row that passes, from one that passes on.
pub find_here : (p : Word → Bool) (table : List (Bor (List ℕ) × TokenKind)) (i : ℕ)
    (d : Bor (List ℕ) × TokenKind) → i < length table → p (row (get_or table i d)) ≡ true
    → find p (drop i (rows table)) ≡ Some (row (get_or table i d))
find_here p [] i d h passes = absurd (omega arith)
find_here p (w ∷ ws) zero d h passes = rw passes refl
find_here p (w ∷ ws) (suc i) d h passes = find_here p ws i d (omega arith) passes

pub decided_false : {P : Type 0} (b : Bool) → Decides b P → (P → false ≡ true) → b ≡ false
decided_false true d h = sym (h (d.0 refl))
decided_false false d h = refl

pub alike : (a b : List ℕ) → map to_ascii_lowercase a ≡ map to_ascii_lowercase b
    → str_eq_ignore_ascii_case a b ≡ true
alike a b h = (bytes_eq-Decides (map to_ascii_lowercase a) (map to_ascii_lowercase b)).1 h

pub unlike : (a b : List ℕ) → (map to_ascii_lowercase a ≡ map to_ascii_lowercase b → false ≡ true)
    → str_eq_ignore_ascii_case a b ≡ false
unlike a b h = decided_false (str_eq_ignore_ascii_case a b)
    (bytes_eq-Decides (map to_ascii_lowercase a) (map to_ascii_lowercase b)) h

-- An `or` with nothing.
option_or_none : {X : Type 0} (o : Option X) → option_or o None ≡ o
option_or_none None = refl
option_or_none (Some x) = refl

-- A word that begins with another letter has other bytes.
pub word_differs : (word : List ℕ) (letter first : ℕ) (rest : List ℕ)
    → to_ascii_lowercase (get_or word 0 0) ≡ letter → (to_ascii_lowercase first ≡ letter → ⊥)
    → str_eq_ignore_ascii_case word (first ∷ rest) ≡ false
word_differs [] letter first rest begins other = refl
word_differs (x ∷ xs) letter first rest begins other =
    let differs : eqb (to_ascii_lowercase x) (to_ascii_lowercase first) ≡ false =
    ne_eqb _ _ (λ h. other (sym h ∙ begins)) in
    and_left _ _ differs

-- No word of a table of another letter has these bytes.
pub other_letter : (letter first : ℕ) (rest : List ℕ) (table : List Word)
    → list_all (λ w. to_ascii_lowercase (get_or w.0 0 0) == letter) table ≡ true
    → (to_ascii_lowercase first ≡ letter → ⊥)
    → find (λ w. str_eq_ignore_ascii_case w.0 (first ∷ rest)) table ≡ None
other_letter letter first rest [] begins other = refl
other_letter letter first rest (w ∷ ws) begins other =
    let parts = and_parts _ _ begins in
    let differs = word_differs w.0 letter first rest (eqb-true _ _ parts.0) other in
    let more = other_letter letter first rest ws parts.1 other in
    rw differs more

-- Nor has one of later letters.
pub later_letters : (letter first : ℕ) (rest : List ℕ) (tables : List (List Word))
    → is_by_letter letter tables ≡ true → to_ascii_lowercase first < letter
    → find (λ w. str_eq_ignore_ascii_case w.0 (first ∷ rest)) (all_of tables) ≡ None
later_letters letter first rest [] by_letter later = refl
later_letters letter first rest (table ∷ tables) by_letter later =
    let parts = and_parts _ _ by_letter in
    let here = other_letter letter first rest table parts.0 (λ h. absurd (omega arith)) in
    let more = later_letters (letter + 1) first rest tables parts.1 (omega arith) in
    rw (find-append, here) more

-- The words of a letter decide for all.
pub find_by_its_letter : (letter first : ℕ) (rest : List ℕ) (tables : List (List Word)) (k : ℕ)
    → is_by_letter letter tables ≡ true → to_ascii_lowercase first ≡ letter + k → k < length tables
    → find (λ w. str_eq_ignore_ascii_case w.0 (first ∷ rest)) (get_or tables k [])
    ≡ find (λ w. str_eq_ignore_ascii_case w.0 (first ∷ rest)) (all_of tables)
find_by_its_letter letter first rest [] k by_letter at within = absurd (omega arith)
find_by_its_letter letter first rest (table ∷ tables) zero by_letter at within =
    let later : to_ascii_lowercase first < letter + 1 = omega arith in
    let parts = and_parts _ _ by_letter in
    let more = later_letters (letter + 1) first rest tables parts.1 later in
    rw (find-append, more) (sym (option_or_none _))
find_by_its_letter letter first rest (table ∷ tables) (suc k) by_letter at within =
    let further : to_ascii_lowercase first ≡ (letter + 1) + k = omega (arith, at) in
    let shorter : k < length tables = omega arith in
    let other : to_ascii_lowercase first ≡ letter → ⊥ = λ h. absurd (omega arith) in
    let parts = and_parts _ _ by_letter in
    let here = other_letter letter first rest table parts.0 (λ h. other h) in
    let more = find_by_its_letter (letter + 1) first rest tables k parts.1 further shorter in
    rw (find-append, here) more

-- A letter in lower case lies from `a` to `z`.
pub lower_letter : (b : ℕ) → is_ascii_alphabetic b ≡ true → (97 ≤ to_ascii_lowercase b)
    × (to_ascii_lowercase b < 123)
lower_letter b h = grind (arith, nat_tests)

-- The words of the first letter decide for all.
pub letter_decides : (table : List (Bor (List (Bor (List ℕ) × TokenKind)))) (bytes : List ℕ) (k : ℕ)
    (d : Bor (List (Bor (List ℕ) × TokenKind))) → length table ≡ 26
    → is_by_letter 97 (groups table) ≡ true → 0 < length bytes
    → is_ascii_alphabetic (get_or bytes 0 0) ≡ true → to_ascii_lowercase (get_or bytes 0 0) ≡ 97 + k
    → find (λ w. str_eq_ignore_ascii_case w.0 bytes) (rows (get_or table k d).now)
    ≡ find (λ w. str_eq_ignore_ascii_case w.0 bytes) (all_of (groups table))
letter_decides table [] k d full by_letter some letter at = absurd (omega arith)
letter_decides table (first ∷ rest) k d full by_letter some letter at =
    let range = lower_letter first letter in
    let within : k < length table = omega arith in
    let here = get_or-map (λ (group : Bor (List (Bor (List ℕ) × TokenKind))). rows group.now) table
    k d [] within in
    rw (← here) (find_by_its_letter 97 first rest (groups table) k by_letter at
    (rw length-map within))
