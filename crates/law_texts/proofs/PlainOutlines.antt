-- Each name that stands in a region of an outline is plain, where those of the tree are.
use Rattle.std.specs.Map.{lookup, set_value}
use Rattle.std.specs.Option.{unwrap_or}
use Rattle.std.proofs.Common.{◌≡◌, refl, subst, ℕ, Bool, true, false, if◌then◌else◌}
use Rattle.std.proofs.Common.{List, [], ◌∷◌, ◌++◌, Option, Some, None, nat_eq}
use Rattle.std.proofs.lemmas.Option.{same_Some, none-some}
use Rattle.est_syntax.specs.Names.{spelled}
use Rattle.est_syntax.specs.declared.name.Used.{Used}
use Rattle.est_syntax.specs.declared.specification.Spec.{Spec}
use Rattle.rule_scope.specs.declared.declaration.Entry.{Entry}
use Rattle.rule_scope.specs.declared.declaration.Member.{Member}
use Rattle.rule_scope.specs.declared.declaration.Standing.{Standing}
use Rattle.rule_scope.specs.declared.declaration.Within.{Within}
use Rattle.rule_scope.specs.Outline.{Outline, Region, names_of, standing, entry_at}
use Rattle.rule_scope.specs.Declaring.{named_in, taken, declared_by, put_by, amended_by}
use Rattle.rule_declares.specs.Bodies.{outline_of}
use Rattle.law_places.specs.Said.{Each}
use Rattle.law_sentences.proofs.Walk.{IsKeptBy, walked}
use Rattle.law_texts.specs.PlainNames.{IsPlainName}
use Rattle.law_texts.proofs.PlainWalk.{Plain, PlainMember, all_plain}
use Rattle.law_texts.proofs.Spelt.{PartSpelt}

abbrev Regions : Type 0
Regions = List (ℕ × Region)

abbrev pub ArePlain : Region → Type 0
ArePlain names = Each (λ (n : List ℕ × Standing). IsPlainName n.0) names

abbrev HavePlain : Regions → Type 0
HavePlain rs = Each (λ (r : ℕ × Region). ArePlain r.1) rs

last_plain : (names : Region) (name : List ℕ) (s : Standing) → IsPlainName name → ArePlain names
    → ArePlain (names ++ (name, s) ∷ [])
last_plain [] name s p h = (p, tt)
last_plain (n ∷ ns) name s p h = (h.0, last_plain ns name s p h.1)

region_found : (rs : Regions) (region : ℕ) (names : Region) → HavePlain rs
    → lookup (nat_eq region) rs ≡ Some names → ArePlain names
region_found [] region names h e = absurd (none-some names e)
region_found (r ∷ rs) region names h e =
    by (nat_eq region r.0) e (region_found rs region names h.1)
  where
    by : (b : Bool) → (if b then Some r.1 else lookup (nat_eq region) rs) ≡ Some names
        → (lookup (nat_eq region) rs ≡ Some names → ArePlain names) → ArePlain names
    by true q rest = subst ArePlain (same_Some r.1 names q) h.0
    by false q rest = rest q

region_set : (rs : Regions) (region : ℕ) (names : Region) → ArePlain names → HavePlain rs
    → HavePlain (set_value (nat_eq region) rs names)
region_set [] region names n h = tt
region_set (r ∷ rs) region names n h =
    by (nat_eq region r.0) (region_set rs region names n h.1)
  where
    by : (b : Bool) → HavePlain (set_value (nat_eq region) rs names)
        → HavePlain (if b then (r.0, names) ∷ rs else r ∷ set_value (nat_eq region) rs names)
    by true rest = (n, h.1)
    by false rest = (h.0, rest)

region_last : (rs : Regions) (region : ℕ) (name : List ℕ) (s : Standing) → IsPlainName name
    → HavePlain rs → HavePlain (rs ++ (region, (name, s) ∷ []) ∷ [])
region_last [] region name s p h = ((p, tt), tt)
region_last (r ∷ rs) region name s p h = (h.0, region_last rs region name s p h.1)

region_named : (x : Option Region) (rs : Regions) (region : ℕ) (name : List ℕ) (s : Standing)
    → lookup (nat_eq region) rs ≡ x → IsPlainName name → HavePlain rs
    → HavePlain (named_in x rs region name s)
region_named None rs region name s is p h = region_last rs region name s p h
region_named (Some names) rs region name s is p h =
    region_set rs region (names ++ (name, s) ∷ [])
    (last_plain names name s p (region_found rs region names h is)) h

-- while an outline grows
abbrev Holds : Outline → Type 0
Holds o = HavePlain o.regions

declared_holds : (t : Option Standing) (o : Outline) (w : Within) (u : Used) (last : ℕ)
    (e : Entry) → IsPlainName (spelled u) → Holds o → Holds (declared_by t w u last e o)
declared_holds (Some s) o w u last e p h = h
declared_holds None o w u last e p h =
    region_named (lookup (nat_eq w.region) o.regions) o.regions w.region (spelled u)
    record { place = u.place; last = last } refl p h

put_holds : (x : Option Standing) (o : Outline) (region : ℕ) (u : Used) (m : Member)
    → IsPlainName (spelled u) → Holds o → Holds (put_by x region u m o)
put_holds (Some s) o region u m p h = h
put_holds None o region u m p h =
    region_named (lookup (nat_eq region) o.regions) o.regions region (spelled u)
    record { place = u.place; last = u.place } refl p h

amended_holds : (x : Option Entry) (o : Outline) (f : Entry → Entry) (place : ℕ) → Holds o
    → Holds (amended_by x f place o)
amended_holds None o f place h = h
amended_holds (Some e) o f place h = h

holds_kept : IsKeptBy Plain PlainMember Holds
holds_kept = record {
  begins = tt;
  declares = λ o w u last e p h. declared_holds (taken o w (spelled u)) o w u last e p h;
  puts = λ o region u m p h. put_holds (standing o region (spelled u)) o region u m p h;
  amends = λ o f place h. amended_holds (entry_at o place) o f place h;
  lies = λ o w place h. h;
}

named_plain : (x : Option Region) (rs : Regions) (region : ℕ) → lookup (nat_eq region) rs ≡ x
    → HavePlain rs → ArePlain (unwrap_or x [])
named_plain None rs region is h = tt
named_plain (Some names) rs region is h = region_found rs region names h is

pub region_plain : (s : Spec) → Each PartSpelt s.parts → (region : ℕ)
    → ArePlain (names_of (outline_of s) region)
region_plain s tree region =
    let rs = (outline_of s).regions in
    named_plain (lookup (nat_eq region) rs) rs region refl
    (walked Plain PlainMember Holds holds_kept s (all_plain s.parts tree))
