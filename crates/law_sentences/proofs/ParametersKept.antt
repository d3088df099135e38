-- Parameters stand first in their regions, whatever is declared after them.
use Rattle.std.specs.Map.{lookup, set_value}
use Rattle.std.specs.Option.{option_or}
use Rattle.std.specs.Prelude.{if◌then◌else◌, unwrap_or, nat_eq}
use Rattle.std.proofs.Common.{◌≡◌, refl, sym, ap, subst, ◌∙◌, true≢false, ℕ, ◌<◌, ◌≤◌, Bool, true}
use Rattle.std.proofs.Common.{false, List, [], ◌∷◌, ◌++◌, Option, Some, None, arith, ◌⊎◌, inl, inr}
use Rattle.std.proofs.lemmas.Option.{same_Some}
use Rattle.indexmap.specs.IndexMap.{insert_entry}
use Rattle.est_syntax.specs.Names.{spelled}
use Rattle.est_syntax.specs.declared.name.Used.{Used}
use Rattle.rule_scope.specs.Declaring.{named_in, named, taken, declared_by, declared, put_by, put}
use Rattle.rule_scope.specs.Declaring.{amended_by, amended, lying}
use Rattle.rule_scope.specs.Outline.{Outline, Region, names_of, entry_at, standing}
use Rattle.rule_scope.specs.declared.declaration.Declared.{Declared}
use Rattle.rule_scope.specs.declared.declaration.Entry.{Entry}
use Rattle.rule_scope.specs.declared.declaration.Member.{Member}
use Rattle.rule_scope.specs.declared.declaration.Standing.{Standing}
use Rattle.rule_scope.specs.declared.declaration.Within.{Within}
use Rattle.law_places.proofs.Tables.{one_number, two_numbers, same_number, tested, inserted_here}
use Rattle.law_places.proofs.Tables.{inserted_apart, set_here, set_apart, pushed}
use Rattle.rule_expressions.specs.Selections.{is_parameter}
use Rattle.law_sentences.specs.FullExpressions.{HasKindSort}
use Rattle.law_sentences.proofs.Leading.{Leads, leads_more, leads_same, agree}

-- a name that stands in a region
abbrev pub Item : Type 0
Item = List ℕ × Standing

-- whether a declaration is a parameter
abbrev pub is_parameter_entry : Option Entry → Bool
is_parameter_entry None = false
is_parameter_entry (Some e) = is_parameter e.section

-- whether a name of a region is one
abbrev pub is_parameter_item : Outline → Item → Bool
is_parameter_item o x = is_parameter_entry (entry_at o x.1.place)

-- names that stand before a place
abbrev pub AreBelow : ℕ → List Item → Type 0
AreBelow b [] = Unit {0}
AreBelow b (x ∷ xs) = (x.1.place < b) × AreBelow b xs

-- An outline whose parameters stand before place a, and its other names before place b: parameters
-- stand first in their regions, and there are no regions from place b on but those of blocks.
pub record Leading (B : ℕ → Type 0) (a b : ℕ) (o : Outline) : Type 0 where
  pub parameters : (q : ℕ) (e : Entry) → entry_at o q ≡ Some e → is_parameter e.section ≡ true
      → (q < a) × HasKindSort e.declared.sort
  pub items : (r : ℕ) → AreBelow b (names_of o r)
  pub fresh : (r : ℕ) → b ≤ r → (B r → ⊥) → lookup (nat_eq r) o.regions ≡ None
  pub leads : (r : ℕ) → Leads (is_parameter_item o) (names_of o r)

pub below_more : (a b : ℕ) (xs : List Item) → a ≤ b → AreBelow a xs → AreBelow b xs
below_more a b [] l h = tt
below_more a b (x ∷ xs) l h = let k = h.0 in (omega arith, below_more a b xs l h.1)

pub below_end : (b : ℕ) (xs : List Item) (y : Item) → AreBelow b xs → y.1.place < b
    → AreBelow b (xs ++ y ∷ [])
below_end b [] y h l = (l, tt)
below_end b (x ∷ xs) y h l = (h.0, below_end b xs y h.1 l)

-- so it is for later places
pub leading_later : {B : ℕ → Type 0} (a b c d : ℕ) (o : Outline) → a ≤ c → b ≤ d → Leading B a b o
    → Leading B c d o
leading_later a b c d o l m k = record {
  parameters = λ q e h p. let s = k.parameters q e h p in
      let n : q < a = s.0 in (omega arith, s.1);
  items = λ r. below_more b d (names_of o r) m (k.items r);
  fresh = λ r n q. k.fresh r (omega arith) q;
  leads = k.leads;
}

-- a region that begins before a place, or is that of a block
abbrev pub IsBefore : (ℕ → Type 0) → ℕ → ℕ → Type 0
IsBefore B b region = (region < b) ⊎ B region

pub before_later : (B : ℕ → Type 0) (b c region : ℕ) → b ≤ c → IsBefore B b region
    → IsBefore B c region
before_later B b c region l (inl n) = inl (omega arith)
before_later B b c region l (inr n) = inr n

-- it is none that begins later
pub apart : (B : ℕ → Type 0) (b region r : ℕ) → IsBefore B b region → b ≤ r → (B r → ⊥)
    → r ≡ region → ⊥
apart B b region r (inl n) l m e = omega arith
apart B b region r (inr n) l m e = m (subst B (sym e) n)

-- the names of the regions of an outline with one name more
pub other_names : (x : Option Region) (rs : List (ℕ × Region)) (region r : ℕ) (name : List ℕ)
    (s : Standing) → nat_eq r region ≡ false
    → lookup (nat_eq r) (named_in x rs region name s) ≡ lookup (nat_eq r) rs
other_names None rs region r name s h =
    pushed (nat_eq r) rs region ((name, s) ∷ []) ∙ by (lookup (nat_eq r) rs) (nat_eq r region) h
  where
    by : (x : Option Region) (b : Bool) → b ≡ false
        → option_or x (if b then Some ((name, s) ∷ []) else None) ≡ x
    by None false e = refl
    by (Some y) false e = refl
    by x true e = absurd (true≢false e)
other_names (Some names) rs region r name s h =
    set_apart region (names ++ (name, s) ∷ []) r rs h

pub own_names : (x : Option Region) (rs : List (ℕ × Region)) (region : ℕ) (name : List ℕ)
    (s : Standing) → lookup (nat_eq region) rs ≡ x
    → lookup (nat_eq region) (named_in x rs region name s)
    ≡ Some (unwrap_or x [] ++ (name, s) ∷ [])
own_names None rs region name s is =
    pushed (nat_eq region) rs region ((name, s) ∷ [])
    ∙ ap (λ (x : Option Region).
    option_or x (if nat_eq region region then Some ((name, s) ∷ []) else None)) is
    ∙ ap (λ (b : Bool). if b then Some ((name, s) ∷ []) else None) (same_number region)
own_names (Some names) rs region name s is =
    set_here region (names ++ (name, s) ∷ []) rs names is

-- what holds of the names of each region, and of those of one with a name more, still does
module _ (o : Outline) (region : ℕ) (name : List ℕ) (s : Standing) (Q : ℕ → List Item → Type 0)
  where
    abbrev grown_names : ℕ → List Item
    grown_names r = unwrap_or (lookup (nat_eq r) (named o region name s)) []

    pub each_names : ((r : ℕ) → Q r (names_of o r)) → Q region (names_of o region ++ (name, s) ∷ [])
        → (r : ℕ) → Q r (grown_names r)
    each_names rest own r = tested (nat_eq r region) here there
      where
        here : nat_eq r region ≡ true → Q r (grown_names r)
        here e =
            let is = one_number r region e in
            subst (λ (q : ℕ). Q q (grown_names q)) (sym is)
            (subst (λ (x : Option Region). Q region (unwrap_or x []))
            (sym (own_names (lookup (nat_eq region) o.regions) o.regions region name s refl)) own)

        there : nat_eq r region ≡ false → Q r (grown_names r)
        there e =
            subst (λ (x : Option Region). Q r (unwrap_or x []))
            (sym (other_names (lookup (nat_eq region) o.regions) o.regions region r name s e))
            (rest r)

    -- a region from a place on is not there still, where this one stands before it
    pub fresh_still : (B : ℕ → Type 0) (b : ℕ) → IsBefore B b region
        → ((r : ℕ) → b ≤ r → (B r → ⊥) → lookup (nat_eq r) o.regions ≡ None)
        → (r : ℕ) → b ≤ r → (B r → ⊥) → lookup (nat_eq r) (named o region name s) ≡ None
    fresh_still B b l rest r m n =
        other_names (lookup (nat_eq region) o.regions) o.regions region r name s
        (two_numbers r region (apart B b region r l m n)) ∙ rest r m n

-- a declaration of another sort of section
abbrev pub Follows : (ℕ → Type 0) → ℕ → Within → Entry → Type 0
Follows B b w e = IsBefore B b w.region × (is_parameter e.section ≡ false)

module _ {B : ℕ → Type 0} (a b : ℕ) where
  -- one more declaration that is no parameter
  module _ (o : Outline) (w : Within) (u : Used) (last : ℕ) (e : Entry) (l : a ≤ u.place)
      (m : u.place < b) (follows : Follows B b w e) (k : Leading B a b o) where
    abbrev new : Outline
    new = declared_by None w u last e o

    abbrev stands : Standing
    stands = record { place = u.place; last = last }

    no_parameter : (x : Option Entry) → entry_at o u.place ≡ x → is_parameter_entry x ≡ false
    no_parameter None is = refl
    no_parameter (Some d) is = by (is_parameter d.section) refl
      where
        by : (t : Bool) → is_parameter d.section ≡ t → t ≡ false
        by false p = refl
        by true p = let n : u.place < a = (k.parameters u.place d is p).0 in absurd (omega arith)

    here : lookup (nat_eq u.place) (insert_entry nat_eq o.entries u.place e) ≡ Some e
    here = inserted_here u.place e o.entries

    still : (q : ℕ) → is_parameter_entry (entry_at o q)
        ≡ is_parameter_entry (lookup (nat_eq q) (insert_entry nat_eq o.entries u.place e))
    still q = tested (nat_eq q u.place) same other
      where
        Is : ℕ → Type 0
        Is q = is_parameter_entry (entry_at o q)
            ≡ is_parameter_entry (lookup (nat_eq q) (insert_entry nat_eq o.entries u.place e))

        same : nat_eq q u.place ≡ true → Is q
        same t = subst Is (sym (one_number q u.place t))
            (no_parameter (entry_at o u.place) refl ∙ sym (ap is_parameter_entry here ∙ follows.1))

        other : nat_eq q u.place ≡ false → Is q
        other t = ap is_parameter_entry (sym (inserted_apart u.place e q o.entries t))

    parameters_still : (q : ℕ) (d : Entry)
        → lookup (nat_eq q) (insert_entry nat_eq o.entries u.place e) ≡ Some d
        → is_parameter d.section ≡ true → (q < a) × HasKindSort d.declared.sort
    parameters_still q d is p = tested (nat_eq q u.place) same other
      where
        same : nat_eq q u.place ≡ true → (q < a) × HasKindSort d.declared.sort
        same t =
            let n = subst (λ (x : ℕ).
            lookup (nat_eq x) (insert_entry nat_eq o.entries u.place e) ≡ Some d)
            (one_number q u.place t) is in
            let c = same_Some e d (sym here ∙ n) in
            absurd (true≢false (sym p ∙ ap (λ (x : Entry). is_parameter x.section) (sym c)
            ∙ follows.1))

        other : nat_eq q u.place ≡ false → (q < a) × HasKindSort d.declared.sort
        other t = k.parameters q d (sym (inserted_apart u.place e q o.entries t) ∙ is) p

    declared_new : Leading B a b new
    declared_new = record {
      parameters = parameters_still;
      items = each_names o w.region (spelled u) stands (λ r xs. AreBelow b xs) k.items
          (below_end b (names_of o w.region) (spelled u, stands) (k.items w.region) m);
      fresh = fresh_still o w.region (spelled u) stands (λ r xs. AreBelow b xs) B b follows.0
          k.fresh;
      leads = each_names o w.region (spelled u) stands (λ r xs. Leads (is_parameter_item new) xs)
          (λ r. lead (names_of o r) (k.leads r))
          (leads_more (is_parameter_item new) (names_of o w.region) (spelled u, stands)
          (lead (names_of o w.region) (k.leads w.region))
          (ap is_parameter_entry here ∙ follows.1));
    }
      where
        lead : (xs : List Item) → Leads (is_parameter_item o) xs → Leads (is_parameter_item new) xs
        lead xs h = leads_same (is_parameter_item o) (is_parameter_item new) xs
            (agree (is_parameter_item o) (is_parameter_item new) (λ x. still x.1.place) xs) h

  pub declared_keeps : (o : Outline) (w : Within) (u : Used) (last : ℕ) (e : Entry) → a ≤ u.place
      → u.place < b → Follows B b w e → Leading B a b o → Leading B a b (declared w u last e o)
  declared_keeps o w u last e l m follows k = by (taken o w (spelled u))
    where
      by : (x : Option Standing) → Leading B a b (declared_by x w u last e o)
      by (Some s) = k
      by None = declared_new o w u last e l m follows k

  -- one more name of a channel or a record
  module _ (o : Outline) (region : ℕ) (u : Used) (x : Member) (n : region < b) (l : a ≤ u.place)
      (m : u.place < b) (k : Leading B a b o) where
    abbrev put_stands : Standing
    put_stands = record { place = u.place; last = u.place }

    no_parameter_there : (d : Option Entry) → entry_at o u.place ≡ d → is_parameter_entry d ≡ false
    no_parameter_there None is = refl
    no_parameter_there (Some d) is = by (is_parameter d.section) refl
      where
        by : (t : Bool) → is_parameter d.section ≡ t → t ≡ false
        by false p = refl
        by true p = let n : u.place < a = (k.parameters u.place d is p).0 in absurd (omega arith)

    put_new : Leading B a b (put_by None region u x o)
    put_new = record {
      parameters = k.parameters;
      items = each_names o region (spelled u) put_stands (λ r xs. AreBelow b xs) k.items
          (below_end b (names_of o region) (spelled u, put_stands) (k.items region) m);
      fresh = fresh_still o region (spelled u) put_stands (λ r xs. AreBelow b xs) B b (inl n)
          k.fresh;
      leads = each_names o region (spelled u) put_stands (λ r xs. Leads (is_parameter_item o) xs)
          k.leads
          (leads_more (is_parameter_item o) (names_of o region) (spelled u, put_stands)
          (k.leads region) (no_parameter_there (entry_at o u.place) refl));
    }

  pub put_keeps : (o : Outline) (region : ℕ) (u : Used) (x : Member) → region < b → a ≤ u.place
      → u.place < b → Leading B a b o → Leading B a b (put region u x o)
  put_keeps o region u x n l m k = by (standing o region (spelled u))
    where
      by : (s : Option Standing) → Leading B a b (put_by s region u x o)
      by (Some s) = k
      by None = put_new o region u x n l m k

-- what is known of a declaration changes, but not what declares it, and of which sort
abbrev pub KeepsSection : (Entry → Entry) → Type 0
KeepsSection f = (e : Entry) → ((f e).section ≡ e.section) × ((f e).declared ≡ e.declared)

module _ {B : ℕ → Type 0} (a b : ℕ) (o : Outline) (f : Entry → Entry) (place : ℕ)
    (keeps : KeepsSection f)
    (k : Leading B a b o) where
  module _ (e : Entry) (is : entry_at o place ≡ Some e) where
    abbrev set : Outline
    set = amended_by (Some e) f place o

    set_entry : lookup (nat_eq place) (set_value (nat_eq place) o.entries (f e)) ≡ Some (f e)
    set_entry = set_here place (f e) o.entries e is

    pub set_still : (q : ℕ) → is_parameter_entry (entry_at o q)
        ≡ is_parameter_entry (lookup (nat_eq q) (set_value (nat_eq place) o.entries (f e)))
    set_still q = tested (nat_eq q place) same other
      where
        Is : ℕ → Type 0
        Is q = is_parameter_entry (entry_at o q)
            ≡ is_parameter_entry (lookup (nat_eq q) (set_value (nat_eq place) o.entries (f e)))

        same : nat_eq q place ≡ true → Is q
        same t = subst Is (sym (one_number q place t))
            (ap is_parameter_entry is ∙ ap is_parameter (sym (keeps e).0)
            ∙ ap is_parameter_entry (sym set_entry))

        other : nat_eq q place ≡ false → Is q
        other t = ap is_parameter_entry (sym (set_apart place (f e) q o.entries t))

    set_parameters : (q : ℕ) (d : Entry)
        → lookup (nat_eq q) (set_value (nat_eq place) o.entries (f e)) ≡ Some d
        → is_parameter d.section ≡ true → (q < a) × HasKindSort d.declared.sort
    set_parameters q d h p = tested (nat_eq q place) same other
      where
        same : nat_eq q place ≡ true → (q < a) × HasKindSort d.declared.sort
        same t =
            let r = one_number q place t in
            let n = subst (λ (x : ℕ).
            lookup (nat_eq x) (set_value (nat_eq place) o.entries (f e)) ≡ Some d) r h in
            let c = same_Some (f e) d (sym set_entry ∙ n) in
            let s = k.parameters place e is (ap is_parameter (sym (keeps e).0)
            ∙ ap (λ (x : Entry). is_parameter x.section) c ∙ p) in (
              subst (λ (x : ℕ). x < a) (sym r) s.0,
              subst (λ (x : Entry). HasKindSort x.declared.sort) c
                  (subst (λ (x : Declared). HasKindSort x.sort) (sym (keeps e).1) s.1),
            )

        other : nat_eq q place ≡ false → (q < a) × HasKindSort d.declared.sort
        other t = k.parameters q d (sym (set_apart place (f e) q o.entries t) ∙ h) p

    amended_new : Leading B a b set
    amended_new = record {
      parameters = set_parameters;
      items = k.items;
      fresh = k.fresh;
      leads = λ r. leads_same (is_parameter_item o) (is_parameter_item set) (names_of o r)
          (agree (is_parameter_item o) (is_parameter_item set) (λ x. set_still x.1.place)
          (names_of o r)) (k.leads r);
    }

  pub amended_keeps : Leading B a b (amended f place o)
  amended_keeps = by (entry_at o place) refl
    where
      by : (x : Option Entry) → entry_at o place ≡ x → Leading B a b (amended_by x f place o)
      by None is = k
      by (Some e) is = amended_new e is

pub lying_keeps : {B : ℕ → Type 0} (a b : ℕ) (o : Outline) (w : Within) (place : ℕ)
    → Leading B a b o
    → Leading B a b (lying w place o)
lying_keeps a b o w place k = record {
  parameters = k.parameters;
  items = k.items;
  fresh = k.fresh;
  leads = k.leads;
}
