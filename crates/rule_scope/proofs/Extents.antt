-- The last extent that begins at a place or before it.
use Rattle.std.specs.Prelude.{nat_lt, if◌then◌else◌}
use Rattle.std.specs.Option.{option_or}
use Rattle.std.specs.List.Sorted.{IsPartitionPoint, IsNonDecreasingBy}
use Rattle.std.proofs.lemmas.List.Sorted.{IsNonDecreasingBy-push}
use Rattle.std.proofs.lemmas.Option.{none-some}
use Rattle.std.proofs.Common.{arith, leb, false, ◌≡◌, refl, sym, ap, ◌∙◌, ℕ}
use Rattle.std.proofs.Common.{zero, suc, ◌+◌, ◌≤◌, ◌<◌, ◌-◌, List, [], ◌∷◌, ◌++◌}
use Rattle.std.proofs.Common.{Option, Some, None, length, get_or, slice_get}
use Rattle.rule_scope.specs.declared.declaration.Extent.{Extent}
use Rattle.rule_scope.specs.Outline.{extent_at, from_or_before}
use Rattle.rule_scope.specs.Declaring.{last_from}

-- so many extents begin at a place or before it, and no others
abbrev pub IsCount : List Extent → ℕ → ℕ → Type 0
IsCount es place n = IsPartitionPoint (λ (e : Extent). e.from ≤ place)
    (λ (e : Extent). place < e.from) es n

pub below_leb : (a b : ℕ) → leb a b ≡ false → b < a
below_leb a b h = grind arith

pub none_if : (p q : ℕ) (e : Extent) → p < q → (if nat_lt p q then None else Some e) ≡ None
none_if p q e h = grind arith

pub some_if : (p q : ℕ) (e : Extent) → q ≤ p → (if nat_lt p q then None else Some e) ≡ Some e
some_if p q e h = grind arith

pub none_tail : (e : Extent) (es : List Extent) (place : ℕ) → IsCount (e ∷ es) place 0
    → IsCount es place 0
none_tail e es place c = (
  λ k d l h. absurd (omega (arith, h)),
  λ k d l h. c.1 (suc k) d (omega arith)
      (omega (arith, h)),
)

pub count_tail : (e : Extent) (es : List Extent) (place n : ℕ) → IsCount (e ∷ es) place (suc n)
    → IsCount es place n
count_tail e es place n c = (
  λ k d l h. c.0 (suc k) d (omega arith) (omega (arith, h)),
  λ k d l h. c.1 (suc k) d
      (omega (arith, l)) (omega (arith, h)),
)

-- none begins there
pub at_none : (es : List Extent) (place : ℕ) → IsCount es place 0 → extent_at es place ≡ None
at_none [] place c = refl
at_none (e ∷ es) place c =
    ap (λ r. option_or r (from_or_before place e)) (at_none es place (none_tail e es place c))
    ∙ none_if place e.from e (c.1 0 e (omega arith) (omega arith))

-- the last of so many does
pub at_some : (es : List Extent) (place n : ℕ) (e : Extent) → n < length es
    → IsCount es place (suc n) → e ≡ get_or es n e → extent_at es place ≡ Some e
at_some [] place n e w c is = absurd (omega (arith, w))
at_some (x ∷ es) place zero e w c is =
    ap (λ r. option_or r (from_or_before place x)) (at_none es place (count_tail x es place 0 c))
    ∙ some_if place x.from x (c.0 0 x (omega arith) (omega arith))
    ∙ ap Some (sym is)
at_some (x ∷ es) place (suc n) e w c is =
    ap (λ r. option_or r (from_or_before place x)) (at_some es place n e (omega (arith, w))
    (count_tail x es place (suc n) c) is)

pub at_last : (es : List Extent) (place n k : ℕ) (e : Extent) → n ≤ length es → IsCount es place n
    → k + 1 ≡ n → e ≡ get_or es k e → extent_at es place ≡ Some e
at_last es place zero k e w c h is = absurd (omega (arith, h))
at_last es place (suc n) k e w c h is =
    let q : k ≡ n = omega (arith, h) in
    at_some es place n e (omega (arith, w)) c (is ∙ ap (λ j. get_or es j e) q)

-- where the last one begins
abbrev pub from_of : Extent → Option Extent → ℕ
from_of x None = x.from
from_of x (Some e) = e.from

pub last_of : (es : List Extent) (from k : ℕ) (e : Extent) → k + 1 ≡ length es
    → slice_get es k ≡ Some e → last_from es from ≡ e.from
last_of [] from k e w h = absurd (omega (arith, w))
last_of (x ∷ []) from zero e w h = ap (from_of x) h
last_of (x ∷ []) from (suc k) e w h = absurd (omega (arith, w))
last_of (x ∷ y ∷ es) from zero e w h = absurd (omega (arith, w))
last_of (x ∷ y ∷ es) from (suc k) e w h = last_of (y ∷ es) x.from k e (omega (arith, w)) h

pub last_at : (es : List Extent) (e : Extent) → slice_get es (length es - 1) ≡ Some e
    → last_from es 0 ≡ e.from
last_at [] e h = absurd (none-some e h)
last_at (x ∷ es) e h = last_of (x ∷ es) 0 (length (x ∷ es) - 1) e (omega arith) h

pub last_is : (es : List Extent) (from k : ℕ) (d : Extent) → k + 1 ≡ length es
    → last_from es from ≡ (get_or es k d).from
last_is [] from k d w = absurd (omega (arith, w))
last_is (e ∷ []) from zero d w = refl
last_is (e ∷ []) from (suc k) d w = absurd (omega (arith, w))
last_is (e ∷ x ∷ es) from zero d w = absurd (omega (arith, w))
last_is (e ∷ x ∷ es) from (suc k) d w = last_is (x ∷ es) e.from k d (omega (arith, w))

-- one extent more, which begins no earlier
pub push_later : (es : List Extent) (e : Extent) → IsNonDecreasingBy (λ (x : Extent). x.from) es
    → last_from es 0 ≤ e.from → IsNonDecreasingBy (λ (x : Extent). x.from) (es ++ e ∷ [])
push_later es e h l =
    IsNonDecreasingBy-push (λ (x : Extent). x.from) es e h
    (λ d w. let q : last_from es 0 ≡ (get_or es (length es - 1) d).from =
    last_is es 0 (length es - 1) d (omega (arith, w)) in omega (arith, l, q))
