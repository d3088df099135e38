-- What a name means is in force in a region.
use Rattle.std.specs.Prelude.{if◌then◌else◌, nat_lt}
use Rattle.std.proofs.Common.{◌≡◌, refl, ap, ◌∙◌, ℕ, zero, suc, ◌≤◌, ◌<◌, Bool, true, false}
use Rattle.std.proofs.Common.{List, [], ◌∷◌, Option, Some, None, arith}
use Rattle.std.proofs.lemmas.Bool.Decides.{Decides-ltb}
use Rattle.std.proofs.lemmas.Option.{same_Some, none-some}
use Rattle.est_syntax.specs.Names.{spelled}
use Rattle.rule_scope.specs.declared.predeclared.PredeclaredName.{PredeclaredName}
use Rattle.rule_scope.specs.Predeclared.{predeclared_name}
use Rattle.est_syntax.specs.declared.name.Used.{Used}
use Rattle.rule_scope.specs.declared.declaration.Extent.{Extent}
use Rattle.rule_scope.specs.declared.declaration.Meant.TheVariants as meant
use Rattle.rule_scope.specs.declared.declaration.Standing.{Standing}
use Rattle.rule_scope.specs.Outline.{Outline, standing, entry_at, in_force, found, is_shared}
use Rattle.rule_scope.specs.Outline.{seen_around, meant_by, meant_within, extent_at}
use Rattle.rule_scope.specs.Uses.{meaning}
use Rattle.law_sentences.specs.Full.{AreFull, AreFullBefore}
use Rattle.law_sentences.specs.FullDeclarations.{WhatIsInForceIsFull, PlaceByPlace}
use Rattle.law_sentences.proofs.SeenUses.{full_for}

-- a name stands in a region for the declaration at a place, and is in force at another
abbrev pub IsInForce : Outline → List ℕ → ℕ → ℕ → Type 0
IsInForce o name place p = (r : ℕ) × (s : Standing) × (standing o r name ≡ Some s)
    × (s.place ≡ p) × (s.last < place)

moved : (o : Outline) (name : List ℕ) (place q p : ℕ) → q ≡ p → IsInForce o name place q
    → IsInForce o name place p
moved o name place q p same x = (x.0, x.1, x.2, x.3 ∙ same, x.4)

-- what is found among regions
by_force : (o : Outline) (name : List ℕ) (place p r : ℕ) (k : Option Standing) (other : Option ℕ)
    → standing o r name ≡ k → (other ≡ Some p → IsInForce o name place p)
    → in_force k place other ≡ Some p → IsInForce o name place p
by_force o name place p r None other is rest h = rest h
by_force o name place p r (Some s) other is rest h = by (nat_lt s.last place) refl h
  where
    by : (b : Bool) → nat_lt s.last place ≡ b → (if b then Some s.place else other) ≡ Some p
        → IsInForce o name place p
    by true passed q = (r, s, is, same_Some s.place p q, (Decides-ltb s.last place).0 passed)
    by false passed q = rest q

found_stands : (o : Outline) (rs : List ℕ) (name : List ℕ) (place p : ℕ)
    → found o rs name place ≡ Some p → IsInForce o name place p
found_stands o [] name place p h = absurd (none-some p h)
found_stands o (r ∷ rs) name place p h =
    by_force o name place p r (standing o r name) (found o rs name place) refl
    (found_stands o rs name place p) h

-- what a name means
around_same : (shared : Bool) (q p : ℕ) → seen_around shared q ≡ meant.Seen p → q ≡ p
around_same true q p h = cc
around_same false q p h = cc

meant_stands : (o : Outline) (known : Option PredeclaredName) (own around : Option ℕ)
    (name : List ℕ) (place p : ℕ)
    → ((q : ℕ) → own ≡ Some q → IsInForce o name place q)
    → ((q : ℕ) → around ≡ Some q → IsInForce o name place q)
    → meant_by o known own around ≡ meant.Seen p → IsInForce o name place p
meant_stands o known (Some q) around name place p inner outer h =
    let same : q ≡ p = cc in moved o name place q p same (inner q refl)
meant_stands o known None (Some q) name place p inner outer h =
    moved o name place q p (around_same (is_shared (entry_at o q)) q p h) (outer q refl)
meant_stands o None None None name place p inner outer h = cc
meant_stands o (Some n) None None name place p inner outer h = cc

within_stands : (o : Outline) (x : Option Extent) (name : List ℕ) (place p : ℕ)
    → meant_within o x name place ≡ meant.Seen p → IsInForce o name place p
within_stands o None name place p h =
    meant_stands o (predeclared_name name) None None name place p (λ q k. absurd (none-some q k))
    (λ q k. absurd (none-some q k)) h
within_stands o (Some e) name place p h =
    meant_stands o (predeclared_name name) (found o e.own name place) (found o e.around name place)
    name place p (found_stands o e.own name place) (found_stands o e.around name place) h

pub meaning_stands : (o : Outline) (u : Used) (p : ℕ) → meaning o u ≡ meant.Seen p
    → IsInForce o (spelled u) u.place p
meaning_stands o u p h = within_stands o (extent_at o.extents u.place) (spelled u) u.place p h

pub in_force_full : WhatIsInForceIsFull
in_force_full o b after full u lt place e is there =
    let x = meaning_stands o u place is in
    let stood = after x.0 (spelled u) x.1 x.2 in
    let same = x.3 in
    let passed = x.4 in
    full_for e.declared.sort e (full place e (omega arith) there)

pub all_full : (o : Outline) (b : ℕ) → AreFull o → AreFullBefore o b
all_full o b full u lt place e is there = full_for e.declared.sort e (full place e there)

-- what is in force before an earlier place is in force before a later one
pub narrowed : (o : Outline) (k b : ℕ) → k ≤ b → AreFullBefore o b → AreFullBefore o k
narrowed o k b le full u lt = full u (omega arith)

-- and so one place after the other
pub place_by_place : PlaceByPlace
place_by_place o each zero u lt place e is there = absurd (omega arith)
place_by_place o each (suc b) u lt place e is there =
    let x = meaning_stands o u place is in
    let same = x.3 in
    let passed = x.4 in
    each x.0 (spelled u) x.1 e x.2 (ap (entry_at o) x.3 ∙ there)
    (narrowed o (suc x.1.last) b (omega arith) (place_by_place o each b))
