-- Each name stands once in its region.
use Rattle.std.proofs.Common.{◌≡◌, ℕ, Bool, true, false, if◌then◌else◌}
use Rattle.std.proofs.Common.{List, [], ◌∷◌, ◌++◌, refl, subst, Option}
use Rattle.std.proofs.Common.{Some, None, nat_eq}
use Rattle.std.proofs.lemmas.Option.{same_Some}
use Rattle.std.proofs.lemmas.Slice.Eq.{bytes_eq-Decides}
use Rattle.std.specs.Map.{lookup, set_value}
use Rattle.std.specs.Option.{option_or, unwrap_or}
use Rattle.est_syntax.specs.Names.{spelled, is_name}
use Rattle.est_syntax.specs.declared.name.Used.{Used}
use Rattle.est_syntax.specs.declared.specification.Spec.{Spec}
use Rattle.rule_kinds.specs.rule_scope.declared.declaration.Entry.{Entry}
use Rattle.rule_kinds.specs.rule_scope.declared.declaration.Member.{Member}
use Rattle.rule_kinds.specs.rule_scope.declared.declaration.Standing.{Standing}
use Rattle.rule_kinds.specs.rule_scope.declared.declaration.Within.{Within}
use Rattle.rule_kinds.specs.rule_scope.Outline.{Outline, Region, names_of}
use Rattle.rule_kinds.specs.rule_scope.Outline.{standing_in, standing, entry_at}
use Rattle.rule_kinds.specs.rule_scope.Declaring.{named_in, standing_of, taken, declared_by}
use Rattle.rule_kinds.specs.rule_scope.Declaring.{put_by, amended_by}
use Rattle.rule_declares.specs.Bodies.{outline_of}
use Rattle.rule_declares.specs.OutlineLaws.{StandOnce}
use Rattle.rule_declares.proofs.Growing.{IsOfEach, IsKept}
use Rattle.rule_declares.proofs.Grown.{grown}
use Rattle.rule_declares.proofs.Names.{IsNew, AreOnce, once_push, once_differ}

abbrev Regions : Type 0
Regions = List (ℕ × Region)

-- the name of one that stands in a region
abbrev pub region_name : List ℕ × Standing → List ℕ
region_name n = n.0

-- a name that is not found is new
not_found : (name : List ℕ) (names : Region) → lookup (is_name name) names ≡ None
    → IsNew region_name name names
not_found name [] h = tt
not_found name (x ∷ xs) h = by (is_name name x.0) refl h (not_found name xs)
  where
    by : (b : Bool) → is_name name x.0 ≡ b → (if b then Some x.1 else lookup (is_name name) xs)
        ≡ None → (lookup (is_name name) xs ≡ None → IsNew region_name name xs)
        → IsNew region_name name (x ∷ xs)
    by true e k rest = cc
    by false e k rest =
        (λ q. let same : is_name name x.0 ≡ true = (bytes_eq-Decides name x.0).1 q in cc, rest k)

-- each name stands once in its region
abbrev HaveOnce : Regions → Type 0
HaveOnce [] = Unit {0}
HaveOnce (r ∷ rs) = AreOnce region_name r.1 × HaveOnce rs

once_found : (rs : Regions) (region : ℕ) (names : Region) → HaveOnce rs
    → lookup (nat_eq region) rs ≡ Some names → AreOnce region_name names
once_found [] region names h e = cc
once_found (r ∷ rs) region names h e = by (nat_eq region r.0) e (once_found rs region names h.1)
  where
    by : (b : Bool) → (if b then Some r.1 else lookup (nat_eq region) rs) ≡ Some names
        → (lookup (nat_eq region) rs ≡ Some names → AreOnce region_name names)
        → AreOnce region_name names
    by true q rest = subst (AreOnce region_name) (same_Some r.1 names q) h.0
    by false q rest = rest q

once_set : (rs : Regions) (region : ℕ) (names : Region) → HaveOnce rs → AreOnce region_name names
    → HaveOnce (set_value (nat_eq region) rs names)
once_set [] region names h k = tt
once_set (r ∷ rs) region names h k = by (nat_eq region r.0) (once_set rs region names h.1 k)
  where
    by : (b : Bool) → HaveOnce (set_value (nat_eq region) rs names)
        → HaveOnce (if b then (r.0, names) ∷ rs else r ∷ set_value (nat_eq region) rs names)
    by true rest = (k, h.1)
    by false rest = (h.0, rest)

once_last : (rs : Regions) (region : ℕ) (name : List ℕ) (s : Standing) → HaveOnce rs
    → HaveOnce (rs ++ (region, (name, s) ∷ []) ∷ [])
once_last [] region name s h = ((tt, tt), tt)
once_last (r ∷ rs) region name s h = (h.0, once_last rs region name s h.1)

once_named : (x : Option Region) (rs : Regions) (region : ℕ) (name : List ℕ) (s : Standing)
    → lookup (nat_eq region) rs ≡ x → standing_in x name ≡ None → HaveOnce rs
    → HaveOnce (named_in x rs region name s)
once_named None rs region name s e n h = once_last rs region name s h
once_named (Some names) rs region name s e n h =
    once_set rs region (names ++ (name, s) ∷ []) h (once_push region_name names (name, s)
    (once_found rs region names h e) (not_found name names n))

-- so it is while an outline grows
no_first : {A : Type 0} (x y : Option A) → option_or x y ≡ None → x ≡ None
no_first None y h = refl
no_first (Some x) y h = cc

declared_once : (t : Option Standing) (o : Outline) (w : Within) (u : Used) (last : ℕ) (e : Entry)
    → taken o w (spelled u) ≡ t → HaveOnce o.regions
    → HaveOnce (declared_by t w u last e o).regions
declared_once (Some s) o w u last e h p = p
declared_once None o w u last e h p =
    once_named (lookup (nat_eq w.region) o.regions) o.regions w.region (spelled u) record {
      place = u.place;
      last = last;
    } refl (no_first (standing o w.region (spelled u)) (standing_of o w.header (spelled u)) h) p

put_once : (t : Option Standing) (o : Outline) (region : ℕ) (u : Used) (m : Member)
    → standing o region (spelled u) ≡ t → HaveOnce o.regions
    → HaveOnce (put_by t region u m o).regions
put_once (Some s) o region u m h p = p
put_once None o region u m h p =
    once_named (lookup (nat_eq region) o.regions) o.regions region (spelled u) record {
      place = u.place;
      last = u.place;
    } refl h p

amended_once : (x : Option Entry) (o : Outline) (f : Entry → Entry) (place : ℕ)
    → HaveOnce o.regions → HaveOnce (amended_by x f place o).regions
amended_once None o f place p = p
amended_once (Some e) o f place p = p

-- any declaration
abbrev Any : Entry → Type 0
Any e = Unit {0}

of_any : IsOfEach Any
of_any = record {
  of_typed = λ w s k. tt;
  of_constant = λ w v. tt;
  of_numbered = λ w i. tt;
  of_point = λ w dims side q. tt;
  of_variable = λ w dims h. tt;
  of_state_set = λ w places. tt;
  of_header = λ w system exports. tt;
  given_kind = λ k e h. tt;
  given_closed = λ b e h. tt;
  given_header = λ h e q. tt;
}

once_kept : IsKept Any (λ o. HaveOnce o.regions)
once_kept = record {
  begins = tt;
  declares = λ o w u last e q p. declared_once (taken o w (spelled u)) o w u last e refl p;
  puts = λ o region u m p. put_once (standing o region (spelled u)) o region u m refl p;
  amends = λ o f place q p. amended_once (entry_at o place) o f place p;
  lies = λ o w place p. p;
}

once_names : (rs : Regions) (region : ℕ) → HaveOnce rs
    → AreOnce region_name (unwrap_or (lookup (nat_eq region) rs) [])
once_names rs region h = by (lookup (nat_eq region) rs) refl
  where
    by : (x : Option Region) → lookup (nat_eq region) rs ≡ x → AreOnce region_name (unwrap_or x [])
    by None e = tt
    by (Some names) e = once_found rs region names h e

pub region_once : (s : Spec) (region : ℕ) → AreOnce region_name (names_of (outline_of s) region)
region_once s region = once_names (outline_of s).regions region
    (grown Any (λ o. HaveOnce o.regions) of_any once_kept s)

pub names_once : (s : Spec) → StandOnce (outline_of s)
names_once s region = once_differ region_name (names_of (outline_of s) region)
    (region_once s region)
