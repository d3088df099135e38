-- What holds of the places of an outline by the names that its tree declares.
use Rattle.std.specs.Map.{lookup, set_value}
use Rattle.std.proofs.Common.{◌≡◌, refl, sym, subst, ℕ, Bool, true, false, if◌then◌else◌}
use Rattle.std.proofs.Common.{List, [], ◌∷◌, ◌++◌, Option, Some, None, nat_eq}
use Rattle.std.proofs.lemmas.Bool.Decides.{Decides-eqb}
use Rattle.std.proofs.lemmas.Option.{same_Some, none-some}
use Rattle.indexmap.specs.IndexMap.{insert_entry}
use Rattle.est_syntax.specs.Names.{spelled, is_name}
use Rattle.est_syntax.specs.declared.name.Used.{Used}
use Rattle.est_syntax.specs.declared.specification.Spec.{Spec}
use Rattle.rule_scope.specs.declared.declaration.Entry.{Entry}
use Rattle.rule_scope.specs.declared.declaration.Member.{Member}
use Rattle.rule_scope.specs.declared.declaration.Standing.{Standing}
use Rattle.rule_scope.specs.declared.declaration.Within.{Within}
use Rattle.rule_scope.specs.Outline.{Outline, Region, standing, standing_in, entry_at}
use Rattle.rule_scope.specs.Declaring.{named_in, taken, declared_by, put_by, amended_by}
use Rattle.rule_declares.specs.Bodies.{outline_of}
use Rattle.law_places.specs.Said.{Each}
use Rattle.law_sentences.proofs.Walk.{OfPart, IsKeptBy, walked}

abbrev Regions : Type 0
Regions = List (ℕ × Region)

abbrev Entries : Type 0
Entries = List (ℕ × Entry)

-- what holds of each place where a name stands, with the last place where it is not in force, and
-- of each place where something is declared
module _ (T : ℕ → ℕ → Type 0) (G : ℕ → Type 0) where
  abbrev AllDeclared : Entries → Type 0
  AllDeclared [] = Unit {0}
  AllDeclared (x ∷ xs) = G x.0 × AllDeclared xs

  abbrev AllNamed : Region → Type 0
  AllNamed [] = Unit {0}
  AllNamed (n ∷ ns) = T n.1.place n.1.last × AllNamed ns

  abbrev AllStand : Regions → Type 0
  AllStand [] = Unit {0}
  AllStand (r ∷ rs) = AllNamed r.1 × AllStand rs

  abbrev Holds : Outline → Type 0
  Holds o = AllDeclared o.entries × AllStand o.regions

  -- entries
  inserted : (xs : Entries) (place : ℕ) (e : Entry) → G place → AllDeclared xs
      → AllDeclared (insert_entry nat_eq xs place e)
  inserted [] place e g a = (g, tt)
  inserted (x ∷ xs) place e g a = by (nat_eq place x.0) (inserted xs place e g a.1)
    where
      by : (b : Bool) → AllDeclared (insert_entry nat_eq xs place e)
          → AllDeclared (if b then (x.0, e) ∷ xs else x ∷ insert_entry nat_eq xs place e)
      by true rest = (a.0, a.1)
      by false rest = (a.0, rest)

  set : (xs : Entries) (place : ℕ) (e : Entry) → AllDeclared xs
      → AllDeclared (set_value (nat_eq place) xs e)
  set [] place e a = tt
  set (x ∷ xs) place e a = by (nat_eq place x.0) (set xs place e a.1)
    where
      by : (b : Bool) → AllDeclared (set_value (nat_eq place) xs e)
          → AllDeclared (if b then (x.0, e) ∷ xs else x ∷ set_value (nat_eq place) xs e)
      by true rest = (a.0, a.1)
      by false rest = (a.0, rest)

  found : (xs : Entries) (place : ℕ) (e : Entry) → AllDeclared xs
      → lookup (nat_eq place) xs ≡ Some e → G place
  found [] place e a q = absurd (none-some e q)
  found (x ∷ xs) place e a q = by (nat_eq place x.0) refl q (found xs place e a.1)
    where
      by : (b : Bool) → nat_eq place x.0 ≡ b
          → (if b then Some x.1 else lookup (nat_eq place) xs) ≡ Some e
          → (lookup (nat_eq place) xs ≡ Some e → G place) → G place
      by true is r rest = subst G (sym ((Decides-eqb place x.0).0 is)) a.0
      by false is r rest = rest r

  -- names
  last_named : (ns : Region) (name : List ℕ) (s : Standing) → T s.place s.last → AllNamed ns
      → AllNamed (ns ++ (name, s) ∷ [])
  last_named [] name s t a = (t, tt)
  last_named (n ∷ ns) name s t a = (a.0, last_named ns name s t a.1)

  named_found : (ns : Region) (name : List ℕ) (s : Standing) → AllNamed ns
      → lookup (is_name name) ns ≡ Some s → T s.place s.last
  named_found [] name s a q = absurd (none-some s q)
  named_found (n ∷ ns) name s a q = by (is_name name n.0) q (named_found ns name s a.1)
    where
      by : (b : Bool) → (if b then Some n.1 else lookup (is_name name) ns) ≡ Some s
          → (lookup (is_name name) ns ≡ Some s → T s.place s.last) → T s.place s.last
      by true r rest = subst (λ x. T x.place x.last) (same_Some n.1 s r) a.0
      by false r rest = rest r

  -- regions
  region_found : (rs : Regions) (region : ℕ) (ns : Region) → AllStand rs
      → lookup (nat_eq region) rs ≡ Some ns → AllNamed ns
  region_found [] region ns a q = absurd (none-some ns q)
  region_found (r ∷ rs) region ns a q = by (nat_eq region r.0) q (region_found rs region ns a.1)
    where
      by : (b : Bool) → (if b then Some r.1 else lookup (nat_eq region) rs) ≡ Some ns
          → (lookup (nat_eq region) rs ≡ Some ns → AllNamed ns) → AllNamed ns
      by true e rest = subst AllNamed (same_Some r.1 ns e) a.0
      by false e rest = rest e

  region_set : (rs : Regions) (region : ℕ) (ns : Region) → AllNamed ns → AllStand rs
      → AllStand (set_value (nat_eq region) rs ns)
  region_set [] region ns n a = tt
  region_set (r ∷ rs) region ns n a = by (nat_eq region r.0) (region_set rs region ns n a.1)
    where
      by : (b : Bool) → AllStand (set_value (nat_eq region) rs ns)
          → AllStand (if b then (r.0, ns) ∷ rs else r ∷ set_value (nat_eq region) rs ns)
      by true rest = (n, a.1)
      by false rest = (a.0, rest)

  region_last : (rs : Regions) (region : ℕ) (name : List ℕ) (s : Standing) → T s.place s.last
      → AllStand rs → AllStand (rs ++ (region, (name, s) ∷ []) ∷ [])
  region_last [] region name s t a = ((t, tt), tt)
  region_last (r ∷ rs) region name s t a = (a.0, region_last rs region name s t a.1)

  region_named : (x : Option Region) (rs : Regions) (region : ℕ) (name : List ℕ) (s : Standing)
      → lookup (nat_eq region) rs ≡ x → T s.place s.last → AllStand rs
      → AllStand (named_in x rs region name s)
  region_named None rs region name s is t a = region_last rs region name s t a
  region_named (Some ns) rs region name s is t a =
      region_set rs region (ns ++ (name, s) ∷ [])
      (last_named ns name s t (region_found rs region ns a is)) a

  stands : (x : Option Region) (rs : Regions) (region : ℕ) (name : List ℕ) (s : Standing)
      → lookup (nat_eq region) rs ≡ x → standing_in x name ≡ Some s → AllStand rs
      → T s.place s.last
  stands None rs region name s is q a = absurd (none-some s q)
  stands (Some ns) rs region name s is q a =
      named_found ns name s (region_found rs region ns a is) q

  -- while an outline grows
  declared_holds : (t : Option Standing) (o : Outline) (w : Within) (u : Used) (last : ℕ)
      (e : Entry) → T u.place last → G u.place → Holds o → Holds (declared_by t w u last e o)
  declared_holds (Some s) o w u last e t g h = h
  declared_holds None o w u last e t g h = (
    inserted o.entries u.place e g h.0,
    region_named (lookup (nat_eq w.region) o.regions) o.regions w.region (spelled u)
        record { place = u.place; last = last } refl t h.1,
  )

  put_holds : (x : Option Standing) (o : Outline) (region : ℕ) (u : Used) (m : Member)
      → T u.place u.place → Holds o → Holds (put_by x region u m o)
  put_holds (Some s) o region u m t h = h
  put_holds None o region u m t h = (
    h.0,
    region_named (lookup (nat_eq region) o.regions) o.regions region (spelled u)
        record { place = u.place; last = u.place } refl t h.1,
  )

  amended_holds : (x : Option Entry) (o : Outline) (f : Entry → Entry) (place : ℕ) → Holds o
      → Holds (amended_by x f place o)
  amended_holds None o f place h = h
  amended_holds (Some e) o f place h = (set o.entries place (f e) h.0, h.1)

  holds_kept : IsKeptBy (λ u last. T u.place last × G u.place) (λ u. T u.place u.place) Holds
  holds_kept = record {
    begins = (tt, tt);
    declares = λ o w u last e d h. declared_holds (taken o w (spelled u)) o w u last e d.0 d.1 h;
    puts = λ o region u m t h. put_holds (standing o region (spelled u)) o region u m t h;
    amends = λ o f place h. amended_holds (entry_at o place) o f place h;
    lies = λ o w place h. h;
  }

  -- so it is at the end
  abbrev pub OfTree : Spec → Type 0
  OfTree s =
      Each (OfPart (λ u last. T u.place last × G u.place) (λ u. T u.place u.place)) s.parts

  pub each_stands : (s : Spec) → OfTree s → (region : ℕ) (name : List ℕ) (x : Standing)
      → standing (outline_of s) region name ≡ Some x → T x.place x.last
  each_stands s q region name x is =
      let h = walked (λ u last. T u.place last × G u.place) (λ u. T u.place u.place) Holds
      holds_kept s q in
      let rs = (outline_of s).regions in
      stands (lookup (nat_eq region) rs) rs region name x refl is h.1

  pub each_declared : (s : Spec) → OfTree s → (place : ℕ) (e : Entry)
      → entry_at (outline_of s) place ≡ Some e → G place
  each_declared s q place e is =
      let h = walked (λ u last. T u.place last × G u.place) (λ u. T u.place u.place) Holds
      holds_kept s q in
      found (outline_of s).entries place e h.0 is
