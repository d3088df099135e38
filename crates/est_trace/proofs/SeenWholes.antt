-- What was seen of values whole, one by one.
use Rattle.std.proofs.Common.{◌≡◌, ℕ, zero, suc, ◌+◌, ◌<◌, ◌≤◌, ℤ, List, [], ◌∷◌, ◌++◌, length, take}
use Rattle.std.proofs.Common.{get_or, sym, ap, ◌∙◌, subst, arith, inl, inr, Option, Some}
use Rattle.std.proofs.Common.{None}
use Rattle.std.specs.Prelude.{◌⊎◌}
use Rattle.std.specs.Option.{option_map}
use Rattle.std.proofs.lemmas.List.{take_more, take_all}
use Rattle.est_values.specs.declared.value.Value.{Value}
use Rattle.est_values.specs.declared.value.Value.TheVariants as value
use Rattle.est_seen.specs.declared.seen.Seen.{Seen, out-Seen}
use Rattle.est_seen.specs.declared.seen.Seen.TheOpen as opened
use Rattle.est_seen.specs.SeenValues.{Matches, MatchEach, HasAny, SomeHasAny, undefined}
use Rattle.est_seen.specs.SeenValues.{ordinal, set, group, nothing_seen, one_more, here, within}
use Rattle.est_seen.specs.SeenValues.{first, later}
use Rattle.est_trace.specs.inside.Wholes.{IsWhole, AreWhole}

-- FORMS

-- a form that is neither any value nor a group has none within
pub none_within : (x : Seen) (l : opened.Seen-F Seen) → out-Seen x ≡ l → (l ≡ opened.Any → ⊥)
    → ((xs : List Seen) → l ≡ opened.Group xs → ⊥) → HasAny x → ⊥
none_within x l e n m (here q) = n (sym e ∙ q)
none_within x l e n m (within xs q h) = m xs (sym e ∙ q)

pub any_whole : (x : Seen) → out-Seen x ≡ opened.Any → IsWhole x None
any_whole x e = here e

pub undefined_whole : (x : Seen) → out-Seen x ≡ opened.Undefined
    → IsWhole x (Some value.Undefined)
undefined_whole x e = (
  undefined e value.outs-Undefined,
  none_within x opened.Undefined e (λ q. cc) (λ xs q. cc),
)

pub ordinal_whole : (x : Seen) (z y : ℤ) → out-Seen x ≡ opened.Ordinal z → y ≡ z
    → IsWhole x (Some (value.Ordinal y))
ordinal_whole x z y e q = subst (λ i. IsWhole x (Some (value.Ordinal i))) (sym q) (
  ordinal z e (value.outs-Ordinal z),
  none_within x (opened.Ordinal z) e (λ p. cc) (λ xs p. cc),
)

pub set_whole : (x : Seen) (zs ys : List ℤ) → out-Seen x ≡ opened.Set zs → ys ≡ zs
    → IsWhole x (Some (value.Set ys))
set_whole x zs ys e q = subst (λ i. IsWhole x (Some (value.Set i))) (sym q) (
  set zs e (value.outs-Set zs),
  none_within x (opened.Set zs) e (λ p. cc) (λ xs p. cc),
)

-- a group has none within where its parts have none
pub parts_within : (x : Seen) (xs : List Seen) → out-Seen x ≡ opened.Group xs → HasAny x
    → SomeHasAny xs
parts_within x xs e (here q) = absurd (let p : opened.Group xs ≡ opened.Any = sym e ∙ q in cc)
parts_within x xs e (within ys q h) =
    let p : ys ≡ xs = (let r : opened.Group ys ≡ opened.Group xs = sym q ∙ e in cc) in
    subst SomeHasAny p h

pub group_whole : (x : Seen) (xs : List Seen) (o : Option (List Value)) (r : Option Value)
    → out-Seen x ≡ opened.Group xs → AreWhole xs o → r ≡ option_map value.Group o → IsWhole x r
group_whole x xs (Some vs) r e h q = subst (IsWhole x) (sym q) (
  group xs vs e (value.outs-Group vs) h.0,
  λ a. h.1 (parts_within x xs e a),
)
group_whole x xs None r e h q = subst (IsWhole x) (sym q) (within xs e h)

-- ONE BY ONE

-- the first values were seen whole
abbrev pub AreWholeTo : ℕ → List Seen → List Value → Type 0
AreWholeTo i xs vs = AreWhole (take i xs) (Some vs)

last_match : (xs : List Seen) (vs : List Value) (x : Seen) (v : Value) → MatchEach xs vs
    → Matches x v → MatchEach (xs ++ x ∷ []) (vs ++ v ∷ [])
last_match _ _ x v nothing_seen m = one_more m nothing_seen
last_match _ _ x v (one_more {xs = xs} {vs = vs} n rest) m = one_more n (last_match xs vs x v rest m)

last_any : (xs : List Seen) (x : Seen) → SomeHasAny (xs ++ x ∷ []) → SomeHasAny xs ⊎ HasAny x
last_any [] x (first h) = inr h
last_any [] x (later h) = elim h [ ]
last_any (y ∷ ys) x (first h) = inl (first h)
last_any (y ∷ ys) x (later h) = elim (last_any ys x h) [ inl q ↦ inl (later q) | inr q ↦ inr q ]

pub none_yet : (xs : List Seen) (vs : List Value) → vs ≡ [] → AreWholeTo 0 xs vs
none_yet xs vs e = subst (λ ws. AreWholeTo 0 xs ws) (sym e) (nothing_seen, λ h. elim h [ ])

pub next_whole : (xs : List Seen) (i : ℕ) (x : Seen) (v : Value) (vs ws : List Value)
    → i < length xs → x ≡ get_or xs i x → AreWholeTo i xs vs → IsWhole x (Some v)
    → ws ≡ vs ++ v ∷ [] → AreWholeTo (i + 1) xs ws
next_whole xs i x v vs ws l is h w e =
    let more : take (i + 1) xs ≡ take i xs ++ x ∷ [] =
    take_more xs i x l ∙ ap (λ y. take i xs ++ y ∷ []) (sym is) in
    subst (λ ys. AreWhole (take (i + 1) xs) (Some ys)) (sym e)
    (subst (λ ys. AreWhole ys (Some (vs ++ v ∷ []))) (sym more) (
      last_match (take i xs) vs x v h.0 w.0,
      λ a. elim (last_any (take i xs) x a) [ inl q ↦ h.1 q | inr q ↦ w.1 q ],
    ))

some_at : (xs : List Seen) (i : ℕ) (x : Seen) → i < length xs → x ≡ get_or xs i x → HasAny x
    → SomeHasAny xs
some_at [] i x l e h = absurd (omega (arith, l))
some_at (y ∷ ys) zero x l e h = first (subst HasAny e h)
some_at (y ∷ ys) (suc i) x l e h = later (some_at ys i x (omega (arith, l)) e h)

pub not_whole : (xs : List Seen) (i : ℕ) (x : Seen) → i < length xs → x ≡ get_or xs i x
    → IsWhole x None → AreWhole xs None
not_whole xs i x l e h = some_at xs i x l e h

pub all_whole : (xs : List Seen) (i : ℕ) (vs : List Value) → length xs ≤ i → AreWholeTo i xs vs
    → AreWhole xs (Some vs)
all_whole xs i vs l h = subst (λ ys. AreWhole ys (Some vs)) (take_all i xs l) h
