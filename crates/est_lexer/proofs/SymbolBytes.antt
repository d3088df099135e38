use Rattle.std.proofs.Common.{◌≡◌, ℕ, List, [], ◌∷◌, get_or, Bool, true, false, refl, ap, sym, ◌∙◌}
use Rattle.std.proofs.Common.{eqb, ◌||◌, Some, None, option_map, nat_eq}
use Rattle.std.specs.Prelude.{codes}
use Rattle.std.specs.List.{find, list_all, list_any, starts_with}
use Rattle.std.proofs.lemmas.Bool.{and_left, and_parts, both_ways, eqb-true, ne_eqb}
use Rattle.est_lexer.specs.inside.Symbols.{begins_several, symbol_at}
use Rattle.est_lexer.specs.Words.{Word, symbols}
use Rattle.est_lexer.specs.declared.kind.TokenKind.TheVariants.{Symbol}
use Rattle.est_lexer.specs.declared.kind.Symbol.TheVariants as sign
use Rattle.est_lexer.proofs.SymbolFront.{sized}

-- The first three bytes decide.
three_decide : (rest : List ℕ) → symbol_at (get_or rest 0 0) (get_or rest 1 0) (get_or rest 2 0)
    ≡ option_map sized (find (λ w. starts_with nat_eq rest w.0) symbols)
unfolding symbols
three_decide [] = refl
three_decide (a ∷ []) = refl
three_decide (a ∷ b ∷ []) = refl
three_decide (a ∷ b ∷ d ∷ rest) = refl

pub bytes_decide : (rest : List ℕ) (a b d : ℕ) → a ≡ get_or rest 0 0 → b ≡ get_or rest 1 0
    → d ≡ get_or rest 2 0 → symbol_at a b d
    ≡ option_map sized (find (λ w. starts_with nat_eq rest w.0) symbols)
bytes_decide rest a b d first second third =
    ap (λ (n : ℕ). symbol_at n b d) first ∙ (ap (λ (n : ℕ). symbol_at (get_or rest 0 0) n d) second
    ∙ (ap (λ (n : ℕ). symbol_at (get_or rest 0 0) (get_or rest 1 0) n) third ∙ three_decide rest))

-- A known first byte, and two of them.
pub at_first : (a b d x : ℕ) → a ≡ x → symbol_at x b d ≡ symbol_at a b d
at_first a b d x is = ap (λ (n : ℕ). symbol_at n b d) (sym is)

pub at_second : (a b d x y : ℕ) → a ≡ x → b ≡ y → symbol_at x y d ≡ symbol_at a b d
at_second a b d x y first second =
    ap (λ (n : ℕ). symbol_at x n d) (sym second) ∙ at_first a b d x first

pub at_third : (a b d x y z : ℕ) → a ≡ x → b ≡ y → d ≡ z → symbol_at x y z ≡ symbol_at a b d
at_third a b d x y z first second third =
    ap (λ (n : ℕ). symbol_at x y n) (sym third) ∙ at_second a b d x y first second

-- Two periods, and no third one.
pub two_periods : (d : ℕ) → (d ≡ 46 → ⊥) → Some (2, Symbol sign.DoublePeriod) ≡ symbol_at 46 46 d
unfolding symbols
two_periods d other = rw (ne_eqb 46 d (λ h. other (sym h))) refl

pub one_period : (b d : ℕ) → (b ≡ 46 → ⊥) → Some (1, Symbol sign.Period) ≡ symbol_at 46 b d
unfolding symbols
one_period b d other = rw (ne_eqb 46 b (λ h. other (sym h))) refl

pub colon_alone : (b d : ℕ) → (b ≡ 61 → ⊥) → Some (1, Symbol sign.Colon) ≡ symbol_at 58 b d
unfolding symbols
colon_alone b d other = rw (ne_eqb 61 b (λ h. other (sym h))) refl

pub below_alone : (b d : ℕ) → (b ≡ 62 → ⊥) → (b ≡ 61 → ⊥)
    → Some (1, Symbol sign.Below) ≡ symbol_at 60 b d
unfolding symbols
below_alone b d above equal =
    rw (ne_eqb 62 b (λ h. above (sym h)), ne_eqb 61 b (λ h. equal (sym h))) refl

pub above_alone : (b d : ℕ) → (b ≡ 61 → ⊥) → Some (1, Symbol sign.Above) ≡ symbol_at 62 b d
unfolding symbols
above_alone b d other = rw (ne_eqb 61 b (λ h. other (sym h))) refl

-- The byte is none of these.
abbrev pub IsOther : ℕ → List ℕ → Type 0
IsOther a [] = Unit {0}
IsOther a (x ∷ xs) = IsOther a xs × (a ≡ x → ⊥)

-- A byte that begins several symbols is one of four.
pub several_are_four : (a : ℕ) → begins_several a ≡ true → IsOther a (codes "><:.") → ⊥
several_are_four a several others =
    let none : begins_several a ≡ false =
    rw (
      ne_eqb a 46 others.0.0.0.1,
      ne_eqb a 58 others.0.0.1,
      ne_eqb a 60 others.0.1,
      ne_eqb a 62
          others.1,
    ) refl
    in
    both_ways _ none several

-- The spelling begins with one of these bytes, or with one that begins several symbols.
abbrev begins_with_one : List ℕ → List ℕ → Bool
begins_with_one firsts [] = false
begins_with_one firsts (x ∷ xs) = begins_several x || list_any (λ b. eqb b x) firsts

or_step : (a x : ℕ) (t u : Bool) → (t ≡ true → a ≡ x → ⊥) → (u ≡ true → a ≡ x → ⊥)
    → t || u ≡ true → a ≡ x → ⊥
or_step a x true u left right any same = left refl same
or_step a x false u left right any same = right any same

other_than : (a x : ℕ) (firsts : List ℕ) → IsOther a firsts
    → list_any (λ b. eqb b x) firsts ≡ true → a ≡ x → ⊥
other_than a x [] others any same = cc
other_than a x (b ∷ bs) others any same =
    or_step a x (eqb b x) (list_any (λ y. eqb y x) bs)
    (λ at s. others.1 (s ∙ sym (eqb-true b x at))) (other_than a x bs others.0) any same

begins_other : (a b d : ℕ) (firsts spelling : List ℕ) → begins_several a ≡ false → IsOther a firsts
    → begins_with_one firsts spelling ≡ true
    → starts_with nat_eq (a ∷ b ∷ d ∷ []) spelling ≡ false
begins_other a b d firsts [] several others one = absurd (cc)
begins_other a b d firsts (x ∷ xs) several others one =
    let differs = or_step a x (begins_several x) (list_any (λ y. eqb y x) firsts)
    (λ at s. both_ways (begins_several x) (ap begins_several (sym s) ∙ several) at)
    (other_than a x firsts others) one in
    and_left _ _ (ne_eqb x a (λ h. differs (sym h)))

find_other : (a b d : ℕ) (firsts : List ℕ) (table : List Word) → begins_several a ≡ false
    → IsOther a firsts → list_all (λ w. begins_with_one firsts w.0) table ≡ true
    → find (λ w. starts_with nat_eq (a ∷ b ∷ d ∷ []) w.0) table ≡ None
find_other a b d firsts [] several others all = refl
find_other a b d firsts (w ∷ ws) several others all =
    let parts = and_parts _ _ all in
    let other = begins_other a b d firsts w.0 several others parts.0 in
    rw other (find_other a b d firsts ws several others parts.1)

-- With another byte no symbol begins.
pub no_symbol_at : (a b d : ℕ) → begins_several a ≡ false → IsOther a (codes "/@^?_;,][)(*-+=")
    → None ≡ symbol_at a b d
unfolding symbols
no_symbol_at a b d several others =
    ap (option_map sized)
    (sym (find_other a b d (codes "/@^?_;,][)(*-+=") symbols several others test))
  where
    test : list_all (λ w. begins_with_one (codes "/@^?_;,][)(*-+=") w.0) symbols ≡ true
    test = refl
