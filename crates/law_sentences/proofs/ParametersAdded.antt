-- Parameters are declared one after the other, in a region that has nothing else.
use Rattle.std.specs.Map.{lookup}
use Rattle.std.specs.Prelude.{unwrap_or, nat_eq}
use Rattle.std.proofs.Common.{◌≡◌, refl, sym, ap, subst, ◌∙◌, ℕ, suc, ◌<◌, ◌≤◌, Bool, true, false}
use Rattle.std.proofs.Common.{List, [], ◌∷◌, ◌++◌, Option, Some, None, arith, inl}
use Rattle.std.proofs.lemmas.Option.{same_Some}
use Rattle.indexmap.specs.IndexMap.{insert_entry}
use Rattle.est_syntax.specs.Names.{spelled}
use Rattle.est_syntax.specs.declared.name.Used.{Used}
use Rattle.rule_scope.specs.Declaring.{taken, declared_by, declared, put_by, put, amended_by}
use Rattle.rule_scope.specs.Declaring.{amended, lying}
use Rattle.rule_scope.specs.Outline.{Outline, names_of, entry_at, standing}
use Rattle.rule_scope.specs.declared.declaration.Entry.{Entry}
use Rattle.rule_scope.specs.declared.declaration.Member.{Member}
use Rattle.rule_scope.specs.declared.declaration.Standing.{Standing}
use Rattle.rule_scope.specs.declared.declaration.Within.{Within}
use Rattle.law_places.proofs.Tables.{one_number, two_numbers, tested, inserted_here, inserted_apart}
use Rattle.rule_expressions.specs.Selections.{is_parameter}
use Rattle.law_sentences.specs.FullExpressions.{HasKindSort}
use Rattle.law_sentences.proofs.Leading.{AllAre, Leads, AgreeOn, all_more, all_lead, all_same}
use Rattle.law_sentences.proofs.Leading.{leads_same, agree}
use Rattle.law_sentences.proofs.ParametersKept.{Item, is_parameter_entry, is_parameter_item}
use Rattle.law_sentences.proofs.ParametersKept.{AreBelow, Leading, below_more, below_end}
use Rattle.law_sentences.proofs.ParametersKept.{leading_later, other_names, each_names, fresh_still}
use Rattle.law_sentences.proofs.ParametersKept.{put_keeps, KeepsSection, amended_keeps, set_still}
use Rattle.law_sentences.proofs.ParametersKept.{lying_keeps}

-- an outline before place c in which the names of the region of p, if it has some, are parameters
pub record Adding (B : ℕ → Type 0) (p c : ℕ) (o : Outline) : Type 0 where
  pub leading : Leading B c c o
  pub parameters : AllAre (is_parameter_item o) (names_of o p)
  pub before : p < c

pub adding_later : {B : ℕ → Type 0} (p c d : ℕ) (o : Outline) → c ≤ d → Adding B p c o
    → Adding B p d o
adding_later p c d o l k = record {
  leading = leading_later c c d d o l l k.leading;
  parameters = k.parameters;
  before = let n : p < c = k.before in omega arith;
}

-- tests of items before a place that agree
agree_below : (f g : Item → Bool) (c : ℕ) (xs : List Item)
    → ((x : Item) → x.1.place < c → f x ≡ g x) → AreBelow c xs → AgreeOn f g xs
agree_below f g c [] h k = tt
agree_below f g c (x ∷ xs) h k = (h x k.0, agree_below f g c xs h k.1)

-- a declaration that is a parameter
abbrev pub IsAdded : ℕ → Within → Entry → Type 0
IsAdded p w e =
    (w.region ≡ p) × (is_parameter e.section ≡ true) × HasKindSort e.declared.sort

module _ {B : ℕ → Type 0} (p c : ℕ) (o : Outline) (w : Within) (u : Used) (last : ℕ) (e : Entry)
    (l : c ≤ u.place)
    (added : IsAdded p w e) (k : Adding B p c o) where
  abbrev new : Outline
  new = declared_by None w u last e o

  abbrev stands : Standing
  stands = record { place = u.place; last = last }

  here : lookup (nat_eq u.place) (insert_entry nat_eq o.entries u.place e) ≡ Some e
  here = inserted_here u.place e o.entries

  is_new : is_parameter_item new (spelled u, stands) ≡ true
  is_new = ap is_parameter_entry here ∙ added.1

  region_before : w.region < suc u.place
  region_before = let n : p < c = k.before in let q = added.0 in omega arith

  agrees : (xs : List Item) → AreBelow c xs
      → AgreeOn (is_parameter_item o) (is_parameter_item new) xs
  agrees xs h = agree_below (is_parameter_item o) (is_parameter_item new) c xs same h
    where
      same : (x : Item) → x.1.place < c → is_parameter_item o x ≡ is_parameter_item new x
      same x n = ap is_parameter_entry (sym (inserted_apart u.place e x.1.place o.entries
          (two_numbers x.1.place u.place (λ q. omega arith))))

  new_parameters : (q : ℕ) (d : Entry)
      → lookup (nat_eq q) (insert_entry nat_eq o.entries u.place e) ≡ Some d
      → is_parameter d.section ≡ true → (q < suc u.place) × HasKindSort d.declared.sort
  new_parameters q d is t = tested (nat_eq q u.place) same other
    where
      same : nat_eq q u.place ≡ true → (q < suc u.place) × HasKindSort d.declared.sort
      same r =
          let i = one_number q u.place r in
          let n = subst (λ (x : ℕ).
          lookup (nat_eq x) (insert_entry nat_eq o.entries u.place e) ≡ Some d) i is in (
            omega arith,
            subst (λ (x : Entry). HasKindSort x.declared.sort)
                (same_Some e d (sym here ∙ n)) added.2,
          )

      other : nat_eq q u.place ≡ false → (q < suc u.place) × HasKindSort d.declared.sort
      other r =
          let s = k.leading.parameters q d
          (sym (inserted_apart u.place e q o.entries r) ∙ is) t in
          let n : q < c = s.0 in (omega arith, s.1)

  -- the names of the region itself
  own_parameters : AllAre (is_parameter_item new) (names_of o w.region ++ (spelled u, stands) ∷ [])
  own_parameters =
      all_more (is_parameter_item new) (names_of o w.region) (spelled u, stands)
      (all_same (is_parameter_item o) (is_parameter_item new) (names_of o w.region)
      (agrees (names_of o w.region) (k.leading.items w.region))
      (subst (λ (q : ℕ). AllAre (is_parameter_item o) (names_of o q)) (sym added.0) k.parameters))
      is_new

  parameters_in : (r : ℕ) → r ≡ p → AllAre (is_parameter_item new) (names_of new r)
  parameters_in = each_names o w.region (spelled u) stands
      (λ r xs. r ≡ p → AllAre (is_parameter_item new) xs)
      (λ r is. all_same (is_parameter_item o) (is_parameter_item new) (names_of o r)
      (agrees (names_of o r) (k.leading.items r))
      (subst (λ (q : ℕ). AllAre (is_parameter_item o) (names_of o q)) (sym is) k.parameters))
      (λ is. own_parameters)

  added_new : Adding B p (suc u.place) new
  added_new = record {
    leading = record {
      parameters = new_parameters;
      items = each_names o w.region (spelled u) stands (λ r xs. AreBelow (suc u.place) xs)
          (λ r. below_more c (suc u.place) (names_of o r) (omega arith) (k.leading.items r))
          (below_end (suc u.place) (names_of o w.region) (spelled u, stands)
          (below_more c (suc u.place) (names_of o w.region) (omega arith)
          (k.leading.items w.region)) (omega arith));
      fresh = fresh_still o w.region (spelled u) stands (λ r xs. AreBelow c xs) B
          (suc u.place) (inl region_before) (λ r n q. k.leading.fresh r (omega arith) q);
      leads = each_names o w.region (spelled u) stands
          (λ r xs. Leads (is_parameter_item new) xs)
          (λ r. leads_same (is_parameter_item o) (is_parameter_item new) (names_of o r)
          (agrees (names_of o r) (k.leading.items r)) (k.leading.leads r))
          (all_lead (is_parameter_item new) (names_of o w.region ++ (spelled u, stands) ∷ [])
          own_parameters);
    };
    parameters = parameters_in p refl;
    before = let n : p < c = k.before in omega arith;
  }

pub declared_adds : {B : ℕ → Type 0} (p c : ℕ) (o : Outline) (w : Within) (u : Used) (last : ℕ)
    (e : Entry)
    → c ≤ u.place → IsAdded p w e → Adding B p c o
    → Adding B p (suc u.place) (declared w u last e o)
declared_adds {B} p c o w u last e l added k = by (taken o w (spelled u))
  where
    by : (x : Option Standing) → Adding B p (suc u.place) (declared_by x w u last e o)
    by (Some s) = adding_later p c (suc u.place) o (omega arith) k
    by None = added_new p c o w u last e l added k

-- names of records, which stand in regions after that of the parameters
pub put_adds : {B : ℕ → Type 0} (p c : ℕ) (o : Outline) (region : ℕ) (u : Used) (x : Member)
    → p < region
    → region < suc u.place → c ≤ u.place → Adding B p c o
    → Adding B p (suc u.place) (put region u x o)
put_adds {B} p c o region u x n m l k = record {
  leading = leading_later c (suc u.place) (suc u.place) (suc u.place) (put region u x o)
      (omega arith) (omega arith)
      (put_keeps c (suc u.place) o region u x m l (omega arith)
      (leading_later c c c (suc u.place) o (omega arith) (omega arith) k.leading));
  parameters = by (standing o region (spelled u));
  before = let q : p < c = k.before in omega arith;
}
  where
    by : (s : Option Standing)
        → AllAre (is_parameter_item (put_by s region u x o)) (names_of (put_by s region u x o) p)
    by (Some s) = k.parameters
    by None = subst (λ (y : _). AllAre (is_parameter_item o) (unwrap_or y []))
        (sym (other_names (lookup (nat_eq region) o.regions) o.regions region p (spelled u)
        record { place = u.place; last = u.place }
        (two_numbers p region (λ q. omega arith)))) k.parameters

pub amended_adds : {B : ℕ → Type 0} (p c : ℕ) (o : Outline) (f : Entry → Entry) (place : ℕ)
    → KeepsSection f
    → Adding B p c o → Adding B p c (amended f place o)
amended_adds {B} p c o f place keeps k = record {
  leading = amended_keeps c c o f place keeps k.leading;
  parameters = by (entry_at o place) refl;
  before = k.before;
}
  where
    by : (x : Option Entry) → entry_at o place ≡ x
        → AllAre (is_parameter_item (amended_by x f place o)) (names_of (amended_by x f place o) p)
    by None is = k.parameters
    by (Some e) is =
        let new = amended_by (Some e) f place o in
        all_same (is_parameter_item o) (is_parameter_item new) (names_of o p)
        (agree (is_parameter_item o) (is_parameter_item new)
        (λ x. set_still c c o f place keeps k.leading e is x.1.place) (names_of o p)) k.parameters

pub lying_adds : {B : ℕ → Type 0} (p c : ℕ) (o : Outline) (w : Within) (place : ℕ) → Adding B p c o
    → Adding B p c (lying w place o)
lying_adds p c o w place k = record {
  leading = lying_keeps c c o w place k.leading;
  parameters = k.parameters;
  before = k.before;
}
