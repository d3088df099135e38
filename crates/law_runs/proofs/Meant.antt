-- What names mean where the text lies in given regions.
use Rattle.std.proofs.Common.{◌≡◌, ℕ, ◌<◌, ◌≤◌, max, Bool, true, false, if◌then◌else◌}
use Rattle.std.proofs.Common.{List, [], ◌∷◌, ◌++◌, refl, sym, subst, ap, Option, Some, None}
use Rattle.std.proofs.Common.{inl, inr, nat_lt, arith}
use Rattle.std.specs.Prelude.{◌⊎◌}
use Rattle.std.specs.Option.{option_or}
use Rattle.std.proofs.lemmas.Option.{same_Some, none-some}
use Rattle.est_syntax.specs.Names.{spelled}
use Rattle.est_syntax.specs.declared.name.Used.{Used}
use Rattle.rule_scope.specs.declared.declaration.Extent.{Extent}
use Rattle.rule_scope.specs.declared.declaration.Standing.{Standing}
use Rattle.rule_scope.specs.declared.declaration.Within.{Within}
use Rattle.rule_scope.specs.declared.predeclared.PredeclaredName.{PredeclaredName}
use Rattle.rule_scope.specs.Outline.{Outline, standing, entry_at, extent_at, from_or_before}
use Rattle.rule_scope.specs.Outline.{in_force, found, is_shared, seen_around, meant_by}
use Rattle.rule_scope.specs.Outline.{meant_within}
use Rattle.rule_scope.specs.Predeclared.{predeclared_name, undeclared}
use Rattle.rule_scope.specs.Declaring.{last_from, lying}
use Rattle.rule_scope.proofs.Extents.{some_if}
use Rattle.law_places.proofs.Meanings.{below}
use Rattle.law_runs.specs.InsideTargets.{IsPlaceOf}
use Rattle.mean_blocks.specs.NamesInRuns.{place_in, declared_at}
use Rattle.law_runs.proofs.Homes.{last_is}

-- PLACES OF LISTS

pub place_left : (xs ys : List ℕ) (p : ℕ) → IsPlaceOf xs p → IsPlaceOf (xs ++ ys) p
place_left [] ys p h = absurd h
place_left (x ∷ xs) ys p (inl e) = inl e
place_left (x ∷ xs) ys p (inr h) = inr (place_left xs ys p h)

pub place_right : (xs ys : List ℕ) (p : ℕ) → IsPlaceOf ys p → IsPlaceOf (xs ++ ys) p
place_right [] ys p h = h
place_right (x ∷ xs) ys p h = inr (place_right xs ys p h)

-- WHERE THE TEXT LIES

-- the regions of a part of the text, from the innermost on
abbrev pub regions_of : Within → List ℕ
regions_of w = w.own ++ w.around

-- from a place on, the text lies in the regions of a part
abbrev pub LiesIn : Within → ℕ → Outline → Type 0
LiesIn w place o = (q : ℕ) → place ≤ q → (e : Extent) × (extent_at o.extents q ≡ Some e)
    × (e.own ≡ w.own) × (e.around ≡ w.around)

last_extent : (es : List Extent) (e : Extent) (q : ℕ) → e.from ≤ q
    → extent_at (es ++ e ∷ []) q ≡ Some e
last_extent [] e q l = some_if q e.from e l
last_extent (x ∷ es) e q l =
    ap (λ r. option_or r (from_or_before q x)) (last_extent es e q l)

pub lies_in : (w : Within) (place : ℕ) (o : Outline) → last_from o.extents 0 ≤ place
    → LiesIn w place (lying w place o)
lies_in w place o l q m =
    let e : Extent = record {
      from = max (last_from o.extents 0) place;
      own = w.own;
      around = w.around;
    } in
    (e, last_extent o.extents e q (omega arith), refl, refl)

-- the last extent begins no later than the place from which on the text lies so
pub lying_reached : (w : Within) (place : ℕ) (o : Outline) → last_from o.extents 0 ≤ place
    → last_from (lying w place o).extents 0 ≤ place
lying_reached w place o l =
    let e : Extent = record {
      from = max (last_from o.extents 0) place;
      own = w.own;
      around = w.around;
    } in
    let n : max (last_from o.extents 0) place ≤ place = omega arith in
    subst (λ z. z ≤ place) (sym (last_is o.extents e 0)) n

-- WHAT IS FOUND

-- a name that stands in one of these regions, in force at a place
pub record Found (o : Outline) (rs : List ℕ) (name : List ℕ) (q p : ℕ) : Type 0 where
  pub region : ℕ
  pub standing_is : Standing
  pub inside : IsPlaceOf rs region
  pub stands : standing o region name ≡ Some standing_is
  pub early : standing_is.last < q
  pub here : standing_is.place ≡ p

pub found_name : (o : Outline) (rs : List ℕ) (name : List ℕ) (q p : ℕ)
    → found o rs name q ≡ Some p → Found o rs name q p
found_name o [] name q p h = absurd (none-some p h)
found_name o (r ∷ rs) name q p h =
    by (standing o r name) refl h (found_name o rs name q p)
  where
    outer : Found o rs name q p → Found o (r ∷ rs) name q p
    outer f = record {
      region = f.region;
      standing_is = f.standing_is;
      inside = inr f.inside;
      stands = f.stands;
      early = f.early;
      here = f.here;
    }

    forced : (s : Standing) → standing o r name ≡ Some s → (b : Bool) → nat_lt s.last q ≡ b
        → (if b then Some s.place else found o rs name q) ≡ Some p
        → (found o rs name q ≡ Some p → Found o rs name q p) → Found o (r ∷ rs) name q p
    forced s e true t k rest = record {
      region = r;
      standing_is = s;
      inside = inl refl;
      stands = e;
      early = below s.last q t;
      here = same_Some s.place p k;
    }
    forced s e false t k rest = outer (rest k)

    by : (x : Option Standing) → standing o r name ≡ x
        → in_force x q (found o rs name q) ≡ Some p
        → (found o rs name q ≡ Some p → Found o rs name q p) → Found o (r ∷ rs) name q p
    by None e k rest = outer (rest k)
    by (Some s) e k rest = forced s e (nat_lt s.last q) refl k rest

around_place : (b : Bool) (x p : ℕ) → place_in (seen_around b x) ≡ Some p → x ≡ p
around_place true x p h = same_Some x p h
around_place false x p h = absurd (none-some p h)

undeclared_place : (known : Option PredeclaredName) (p : ℕ)
    → place_in (undeclared known) ≡ Some p → ⊥
undeclared_place None p h = none-some p h
undeclared_place (Some n) p h = none-some p h

-- where what is meant by a name is declared, it is found
meant_found : (o : Outline) (known : Option PredeclaredName) (x y : Option ℕ) (p : ℕ)
    → place_in (meant_by o known x y) ≡ Some p → (x ≡ Some p) ⊎ (y ≡ Some p)
meant_found o known (Some x) y p h = inl h
meant_found o known None (Some y) p h =
    inr (ap Some (around_place (is_shared (entry_at o y)) y p h))
meant_found o known None None p h = absurd (undeclared_place known p h)

-- a name that is declared in an outline, where the text lies in these regions, stands in one of
-- them and is in force
pub declared_found : (o : Outline) (own around : List ℕ) (u : Used) (p : ℕ) (e : Extent)
    → extent_at o.extents u.place ≡ Some e → e.own ≡ own → e.around ≡ around
    → declared_at o u ≡ Some p → Found o (own ++ around) (spelled u) u.place p
declared_found o own around u p e is a b h =
    let q = u.place in
    let name = spelled u in
    let known = predeclared_name name in
    let k : place_in (meant_within o (Some e) name q) ≡ Some p =
    subst (λ x. place_in (meant_within o x name q) ≡ Some p) is h in
    let m : place_in (meant_by o known (found o own name q) (found o e.around name q)) ≡ Some p =
    subst (λ rs. place_in (meant_by o known (found o rs name q) (found o e.around name q))
    ≡ Some p) a k in
    let n : place_in (meant_by o known (found o own name q) (found o around name q)) ≡ Some p =
    subst (λ rs. place_in (meant_by o known (found o own name q) (found o rs name q))
    ≡ Some p) b m in
    by (meant_found o known (found o own name q) (found o around name q) p n)
  where
    by : (found o own (spelled u) u.place ≡ Some p) ⊎ (found o around (spelled u) u.place ≡ Some p)
        → Found o (own ++ around) (spelled u) u.place p
    by (inl k) = let f = found_name o own (spelled u) u.place p k in record {
      region = f.region;
      standing_is = f.standing_is;
      inside = place_left own around f.region f.inside;
      stands = f.stands;
      early = f.early;
      here = f.here;
    }
    by (inr k) = let f = found_name o around (spelled u) u.place p k in record {
      region = f.region;
      standing_is = f.standing_is;
      inside = place_right own around f.region f.inside;
      stands = f.stands;
      early = f.early;
      here = f.here;
    }
