use Rattle.std.proofs.Common.{◌≡◌, ◌≤◌, ◌<◌, ℕ, suc, zero, List, [], ◌∷◌, length, take, arith}
use Rattle.std.proofs.Common.{Bool, true, false, not, cond, refl, ap, sym, subst, ◌∙◌, eqb, ◌&&◌}
use Rattle.std.proofs.Common.{Option, Some, None, option_map, length-take, nat_eq, bytes_eq, find}
use Rattle.std.specs.List.{starts_with, list_all}
use Rattle.std.specs.Char.{is_ascii_alphabetic, is_ascii_digit}
use Rattle.std.proofs.lemmas.Bool.{and_parts, false_from_ne_true, both_ways, not-true}
use Rattle.std.proofs.lemmas.List.{take-take}
use Rattle.std.proofs.lemmas.Slice.Eq.{bytes_eq-Decides}
use Rattle.est_lexer.specs.Spellings.{kind_of, symbol_kind}
use Rattle.est_lexer.specs.Words.{Word, symbols}
use Rattle.est_lexer.specs.declared.kind.TokenKind.{TokenKind}
use Rattle.est_lexer.proofs.KindOf.{kind_of_other}
use Rattle.est_lexer.proofs.Longest.{Longest}

-- Each row stands before those that begin it.
abbrev pub is_longest_first : List Word → Bool
is_longest_first [] = true
is_longest_first (w ∷ ws) = list_all (λ v. not (starts_with nat_eq v.0 w.0)) ws && is_longest_first
    ws

-- The symbols stand so.
symbols_longest_first : is_longest_first symbols ≡ true
unfolding symbols
symbols_longest_first = refl

-- A spelling that is a front of the rest: the rest begins with it.
front_begins : (spelling rest : List ℕ) (m : ℕ) → m ≤ length rest
    → bytes_eq spelling (take m rest) ≡ true → (length spelling ≡ m)
    × (starts_with nat_eq rest spelling ≡ true)
front_begins spelling rest m within same =
    let is = (bytes_eq-Decides spelling (take m rest)).0 same in
    let size : length spelling ≡ m = omega (arith, ap length is, length-take m rest) in
    let whole : spelling ≡ take (length spelling) rest = is ∙ ap (λ (k : ℕ). take k rest) (sym size)
    in
    (size, (bytes_eq-Decides spelling (take (length spelling) rest)).1 whole)

-- What the rest begins with is no longer than it.
begins_within : (spelling rest : List ℕ) → starts_with nat_eq rest spelling ≡ true
    → length spelling ≤ length rest
begins_within spelling rest begins =
    let is = (bytes_eq-Decides spelling (take (length spelling) rest)).0 begins in
    omega (arith, ap length is, length-take (length spelling) rest)

not_front : (spelling rest : List ℕ) (m : ℕ) → m ≤ length rest
    → starts_with nat_eq rest spelling ≡ false → bytes_eq spelling (take m rest) ≡ false
not_front spelling rest m within other = false_from_ne_true _
    (λ same. both_ways _ other (front_begins spelling rest m within same).1)

none_step : (rest : List ℕ) (m : ℕ) (w : Word) (ws : List Word) (b : Bool) → m ≤ length rest
    → starts_with nat_eq rest w.0 ≡ b → cond b (Some w) (find (λ v. starts_with nat_eq rest v.0) ws)
    ≡ None → (find (λ v. starts_with nat_eq rest v.0) ws ≡ None
    → find (λ v. bytes_eq v.0 (take m rest)) ws ≡ None)
    → find (λ v. bytes_eq v.0 (take m rest)) (w ∷ ws) ≡ None
none_step rest m w ws true within at none more = cc
none_step rest m w ws false within at none more = rw (not_front w.0 rest m within at) (more none)

-- Where the rest begins with no row, no front of it is one.
none_front : (rest : List ℕ) (m : ℕ) (table : List Word) → m ≤ length rest
    → find (λ w. starts_with nat_eq rest w.0) table ≡ None
    → find (λ w. bytes_eq w.0 (take m rest)) table ≡ None
none_front rest m [] within none = refl
none_front rest m (w ∷ ws) within none = none_step rest m w ws (starts_with nat_eq rest w.0) within
    refl none (none_front rest m ws within)

found_step : (rest : List ℕ) (w e : Word) (ws : List Word) (b : Bool)
    → starts_with nat_eq rest w.0 ≡ b → cond b (Some w) (find (λ v. starts_with nat_eq rest v.0) ws)
    ≡ Some e → (find (λ v. starts_with nat_eq rest v.0) ws ≡ Some e
    → (starts_with nat_eq rest e.0 ≡ true) × (find (λ v. bytes_eq v.0 (take (length e.0) rest)) ws
    ≡ Some e)) → (starts_with nat_eq rest e.0 ≡ true)
    × (find (λ v. bytes_eq v.0 (take (length e.0) rest)) (w ∷ ws) ≡ Some e)
found_step rest w e ws true at found more =
    let same : w ≡ e = cc in
    let begins : starts_with nat_eq rest e.0 ≡ true = subst (λ (v : Word). starts_with nat_eq rest
    v.0 ≡ true) same at in
    let front = subst (λ (v : Word). bytes_eq v.0 (take (length e.0) rest) ≡ true) (sym same) begins
    in
    (begins, rw front found)
found_step rest w e ws false at found more =
    let rec = more found in
    (rec.0, rw (not_front w.0 rest (length e.0) (begins_within e.0 rest rec.0) at) rec.1)

-- The first row that the rest begins with is the row of that front.
found_front : (rest : List ℕ) (e : Word) (table : List Word)
    → find (λ w. starts_with nat_eq rest w.0) table ≡ Some e → (starts_with nat_eq rest e.0 ≡ true)
    × (find (λ w. bytes_eq w.0 (take (length e.0) rest)) table ≡ Some e)
found_front rest e [] found = cc
found_front rest e (w ∷ ws) found = found_step rest w e ws (starts_with nat_eq rest w.0) refl found
    (found_front rest e ws)

-- A longer front begins with it.
longer_begins : (spelling longer rest : List ℕ) (m : ℕ) → starts_with nat_eq rest spelling ≡ true
    → length spelling < m → bytes_eq longer (take m rest) ≡ true
    → starts_with nat_eq longer spelling ≡ true
longer_begins spelling longer rest m begins more same =
    let front = (bytes_eq-Decides spelling (take (length spelling) rest)).0 begins in
    let is = (bytes_eq-Decides longer (take m rest)).0 same in
    let within : length spelling ≤ m = omega arith in
    let shorter : take (length spelling) (take m rest) ≡ take (length spelling) rest =
    take-take (length spelling) m rest within in
    let whole : spelling ≡ take (length spelling) longer = front
    ∙ sym (ap (λ (l : List ℕ). take (length spelling) l) is ∙ shorter) in
    (bytes_eq-Decides spelling (take (length spelling) longer)).1 whole

later_no_front : (spelling rest : List ℕ) (m : ℕ) (table : List Word)
    → starts_with nat_eq rest spelling ≡ true → length spelling < m
    → list_all (λ v. not (starts_with nat_eq v.0 spelling)) table ≡ true
    → find (λ w. bytes_eq w.0 (take m rest)) table ≡ None
later_no_front spelling rest m [] begins more later = refl
later_no_front spelling rest m (w ∷ ws) begins more later =
    let parts = and_parts _ _ later in
    let other = false_from_ne_true (bytes_eq w.0 (take m rest))
    (λ same. both_ways _ (not-true _ parts.0) (longer_begins spelling w.0 rest m begins more
    same)) in
    rw other (later_no_front spelling rest m ws begins more parts.1)

longest_step : (rest : List ℕ) (m : ℕ) (w e : Word) (ws : List Word) (b : Bool)
    → starts_with nat_eq rest w.0 ≡ b → list_all (λ v. not (starts_with nat_eq v.0 w.0)) ws ≡ true
    → cond b (Some w) (find (λ v. starts_with nat_eq rest v.0) ws) ≡ Some e → length e.0 < m
    → m ≤ length rest → (find (λ v. starts_with nat_eq rest v.0) ws ≡ Some e
    → find (λ v. bytes_eq v.0 (take m rest)) ws ≡ None)
    → find (λ v. bytes_eq v.0 (take m rest)) (w ∷ ws) ≡ None
longest_step rest m w e ws true at later found more within further =
    let same : w ≡ e = cc in
    let longer : length w.0 < m = subst (λ (v : Word). length v.0 < m) (sym same) more in
    let other = false_from_ne_true (bytes_eq w.0 (take m rest)) (λ h. let size =
    (front_begins w.0 rest m within h).0 in absurd (omega arith)) in
    rw other (later_no_front w.0 rest m ws at longer later)
longest_step rest m w e ws false at later found more within further =
    rw (not_front w.0 rest m within at) (further found)

-- No longer front is a row.
longest_front : (rest : List ℕ) (m : ℕ) (e : Word) (table : List Word)
    → is_longest_first table ≡ true → find (λ w. starts_with nat_eq rest w.0) table ≡ Some e
    → length e.0 < m → m ≤ length rest → find (λ w. bytes_eq w.0 (take m rest)) table ≡ None
longest_front rest m e [] ordered found more within = refl
longest_front rest m e (w ∷ ws) ordered found more within =
    let parts = and_parts _ _ ordered in
    longest_step rest m w e ws (starts_with nat_eq rest w.0) refl parts.0 found more within
    (λ h. longest_front rest m e ws parts.1 h more within)

-- Where no letter, digit or quote stands, tokens are symbols.
kind_of_front : (first : ℕ) (rest : List ℕ) (m : ℕ) → is_ascii_alphabetic first ≡ false
    → is_ascii_digit first ≡ false → eqb first 39 ≡ false
    → kind_of (take m (first ∷ rest)) ≡ symbol_kind (take m (first ∷ rest))
unfolding kind_of
kind_of_front first rest zero no_letter no_digit no_quote = refl
kind_of_front first rest (suc m) no_letter no_digit no_quote = kind_of_other first (take m rest)
    no_letter no_digit no_quote

-- The length and the kind of a row.
abbrev pub sized : Word → ℕ × TokenKind
sized w = (length w.0, w.1)

-- A row that was found first is the longest token.
pub symbol_longest : (first : ℕ) (rest : List ℕ) → is_ascii_alphabetic first ≡ false
    → is_ascii_digit first ≡ false → eqb first 39 ≡ false → (found : Option Word)
    → find (λ w. starts_with nat_eq (first ∷ rest) w.0) symbols ≡ found → (pair : ℕ × TokenKind)
    → Some pair ≡ option_map sized found → Longest (first ∷ rest) pair.0 pair.1
unfolding symbol_kind
symbol_longest first rest no_letter no_digit no_quote None at pair is = absurd (cc)
symbol_longest first rest no_letter no_digit no_quote (Some e) at pair is =
    let same : pair ≡ sized e = cc in
    let front = found_front (first ∷ rest) e symbols at in
    let row : Longest (first ∷ rest) (length e.0) e.1 = record {
      inside = begins_within e.0 (first ∷ rest) front.0;
      front = kind_of_front first rest (length e.0) no_letter no_digit no_quote
          ∙ ap (option_map (λ (w : Word). w.1)) front.1;
      none_longer = λ m more within. kind_of_front first rest m no_letter no_digit no_quote
          ∙ ap (option_map (λ (w : Word). w.1)) (longest_front (first ∷ rest) m e symbols
          symbols_longest_first at more within);
    } in
    subst (λ (p : ℕ × TokenKind). Longest (first ∷ rest) p.0 p.1) (sym same) row

-- Where none was found, no token begins.
pub no_symbol : (first : ℕ) (rest : List ℕ) → is_ascii_alphabetic first ≡ false
    → is_ascii_digit first ≡ false → eqb first 39 ≡ false → (found : Option Word)
    → find (λ w. starts_with nat_eq (first ∷ rest) w.0) symbols ≡ found
    → None ≡ option_map sized found → (m : ℕ) → m ≤ length (first ∷ rest)
    → kind_of (take m (first ∷ rest)) ≡ None
unfolding symbol_kind
no_symbol first rest no_letter no_digit no_quote (Some e) at is m within = absurd (cc)
no_symbol first rest no_letter no_digit no_quote None at is m within = kind_of_front first rest m
    no_letter no_digit no_quote ∙ ap (option_map (λ (w : Word). w.1)) (none_front (first ∷ rest) m
    symbols within at)
