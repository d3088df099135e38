-- A canonical explanation at the end of a text is told from what stands before it.
use Rattle.std.specs.Fmt.{decimal}
use Rattle.std.proofs.Common.{◌≡◌, ◌∙◌, ◌≤◌, ◌<◌, ◌^◌, ℕ, true, false, not, List, [], ◌∷◌}
use Rattle.std.proofs.Common.{◌++◌, codes, refl, sym, subst, ap, arith, get_or, drop}
use Rattle.std.proofs.Common.{append_assoc, eqb}
use Rattle.std.specs.Prelude.{All, flat_map}
use Rattle.std.specs.Char.{is_ascii_digit}
use Rattle.std.specs.List.{list_all}
use Rattle.std.proofs.lemmas.Bool.{and_parts}
use Rattle.std.proofs.lemmas.Bool.Decides.{nat_tests}
use Rattle.std.proofs.lemmas.List.Elements.{All-head, All-tail}
use Rattle.std.proofs.lemmas.List.Folds.{list_all-append}
use Rattle.est_explanation.specs.declared.explanation.Explanation.{Explanation}
use Rattle.est_explanation.specs.CanonicalExplanation.{canonical, move_line, claim_line}
use Rattle.est_explanation.specs.CanonicalExplanation.{IsWritable, IsWritableMove}
use Rattle.est_explanation.specs.ExplanationGrammar.{most_ordinal}
use Rattle.est_explanation.proofs.Numerals.{decimal_digits}
use Rattle.est_meaning.specs.declared.run.Move.{Move}
use Rattle.est_meaning.specs.declared.run.Move.TheVariants.{Take, Fire}

-- THE LAST X

-- no byte is an `x`
abbrev HasNone : List ℕ → Type 0
HasNone s = list_all (λ b. not (eqb b 120)) s ≡ true

-- one that has an `x` within has one
has_one : (b s : List ℕ) → HasNone (b ++ 120 ∷ s) → ⊥
has_one [] s h = let p : false ≡ true =
    (and_parts (not (eqb 120 120)) (list_all (λ b. not (eqb b 120)) s) h).0 in cc
has_one (y ∷ b) s h = has_one b s
    (and_parts (not (eqb y 120)) (list_all (λ b. not (eqb b 120)) (b ++ 120 ∷ s)) h).1

-- bytes after which there are an `e` and the last `x` are told by the whole
one_front : (a b s t : List ℕ) → HasNone s → HasNone t
    → a ++ 101 ∷ 120 ∷ s ≡ b ++ 101 ∷ 120 ∷ t → a ≡ b
one_front [] [] s t h k e = refl
one_front [] (y ∷ []) s t h k e =
    let q : 120 ≡ 101 = ap (λ l. get_or l 1 0) e in absurd (omega (arith, q))
one_front [] (y ∷ z ∷ b) s t h k e =
    let q : s ≡ b ++ 101 ∷ 120 ∷ t = ap (drop 2) e in
    absurd (has_one (b ++ 101 ∷ []) t
    (subst HasNone (q ∙ sym (append_assoc b (101 ∷ []) (120 ∷ t))) h))
one_front (x ∷ []) [] s t h k e =
    let q : 101 ≡ 120 = ap (λ l. get_or l 1 0) e in absurd (omega (arith, q))
one_front (x ∷ z ∷ a) [] s t h k e =
    let q : a ++ 101 ∷ 120 ∷ s ≡ t = ap (drop 2) e in
    absurd (has_one (a ++ 101 ∷ []) s
    (subst HasNone (sym q ∙ sym (append_assoc a (101 ∷ []) (120 ∷ s))) k))
one_front (x ∷ a) (y ∷ b) s t h k e =
    let head : x ≡ y = ap (λ l. get_or l 0 0) e in
    let same : a ≡ b = one_front a b s t h k (ap (drop 1) e) in
    λ i. head i ∷ same i

-- CANONICAL TEXTS

none_append : (s t : List ℕ) → HasNone s → HasNone t → HasNone (s ++ t)
none_append s t h k = rw (list_all-append (λ b. not (eqb b 120)) s t, h, k) refl

digit_none : (b : ℕ) → is_ascii_digit b ≡ true → not (eqb b 120) ≡ true
digit_none b h = grind (arith, nat_tests)

digits_none : (ds : List ℕ) → list_all is_ascii_digit ds ≡ true → HasNone ds
digits_none [] h = refl
digits_none (d ∷ ds) h =
    let p = and_parts (is_ascii_digit d) (list_all is_ascii_digit ds) h in
    rw (digit_none d p.0) (digits_none ds p.1)

decimal_none : (n : ℕ) → n < 2 ^ 64 → HasNone (decimal n)
decimal_none n h = digits_none (decimal n) (decimal_digits n h)

ordinal_none : (n : ℕ) → n ≤ most_ordinal → HasNone (decimal n)
ordinal_none n h = decimal_none n (omega (arith, h))

move_none : (m : Move) → IsWritableMove m → HasNone (move_line m)
move_none Take w = refl
move_none (Fire f) w =
    none_append (codes "fire " ++ decimal f.instance ++ codes " " ++ decimal f.transition
    ++ codes " " ++ decimal f.choice) (codes "\n")
    (none_append (codes "fire " ++ decimal f.instance ++ codes " " ++ decimal f.transition
    ++ codes " ") (decimal f.choice)
    (none_append (codes "fire " ++ decimal f.instance ++ codes " " ++ decimal f.transition)
    (codes " ")
    (none_append (codes "fire " ++ decimal f.instance ++ codes " ") (decimal f.transition)
    (none_append (codes "fire " ++ decimal f.instance) (codes " ")
    (none_append (codes "fire ") (decimal f.instance) refl (ordinal_none f.instance w.instance))
    refl) (ordinal_none f.transition w.transition)) refl) (ordinal_none f.choice w.choice)) refl

moves_none : (ms : List Move) → All IsWritableMove ms → HasNone (flat_map move_line ms)
moves_none [] w = refl
moves_none (m ∷ ms) w =
    none_append (move_line m) (flat_map move_line ms) (move_none m (All-head IsWritableMove m ms w))
    (moves_none ms (All-tail IsWritableMove m ms w))

claim_none : (n : ℕ) → n < 2 ^ 64 → HasNone (claim_line n)
claim_none n h =
    none_append (codes "yields " ++ decimal n) (codes "\n")
    (none_append (codes "yields ") (decimal n) refl (decimal_none n h)) refl

-- what comes after the first two bytes
rest_of : Explanation → List ℕ
rest_of x = codes "planation 1\n" ++ flat_map move_line x.moves ++ claim_line x.claim

canonical_is : (x : Explanation) → canonical x ≡ 101 ∷ 120 ∷ rest_of x
unfolding rest_of
canonical_is x = refl

rest_none : (x : Explanation) → IsWritable x → HasNone (rest_of x)
unfolding rest_of
rest_none x w =
    let n = w.claim in
    none_append (codes "planation 1\n" ++ flat_map move_line x.moves) (claim_line x.claim)
    (none_append (codes "planation 1\n") (flat_map move_line x.moves) refl
    (moves_none x.moves w.moves)) (claim_none x.claim (omega (arith, n)))

-- what stands before a canonical text at the end is told by the whole
pub same_front : (a b : List ℕ) (x y : Explanation) → IsWritable x → IsWritable y
    → a ++ canonical x ≡ b ++ canonical y → a ≡ b
same_front a b x y w v e =
    one_front a b (rest_of x) (rest_of y) (rest_none x w) (rest_none y v)
    (sym (ap (λ s. a ++ s) (canonical_is x)) ∙ e ∙ ap (λ s. b ++ s) (canonical_is y))

-- and so is that text
same_behind : (a s t : List ℕ) → a ++ s ≡ a ++ t → s ≡ t
same_behind [] s t e = e
same_behind (x ∷ a) s t e = same_behind a s t (ap (drop 1) e)

-- the parts of a text are told by it
pub same_parts : (a b : List ℕ) (x y : Explanation) → IsWritable x → IsWritable y
    → a ++ canonical x ≡ b ++ canonical y → (a ≡ b) × (canonical x ≡ canonical y)
same_parts a b x y w v e =
    let front = same_front a b x y w v e in (
      front,
      same_behind b (canonical x) (canonical y)
          (ap (λ f. f ++ canonical x) (sym front) ∙ e),
    )
