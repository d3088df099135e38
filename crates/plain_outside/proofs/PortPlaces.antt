-- Where the ports of a header stand among them.
use Rattle.std.proofs.Common.{◌≡◌, ℕ, zero, suc, ◌+◌, ◌<◌, ◌≤◌, ℤ, Bool, true, false, nat_eq}
use Rattle.std.proofs.Common.{if◌then◌else◌, List, [], ◌∷◌, map, length, refl, sym, ap, ◌∙◌, subst}
use Rattle.std.proofs.Common.{Option, Some, None, slice_get, inl, inr, arith}
use Rattle.std.specs.Prelude.{◌⊎◌, unwrap_or}
use Rattle.std.specs.List.{find}
use Rattle.std.specs.Map.{lookup}
use Rattle.std.proofs.lemmas.Bool.Decides.{Decides-eqb}
use Rattle.std.proofs.lemmas.List.{length-map}
use Rattle.std.proofs.lemmas.Option.{same_Some}
use Rattle.std.proofs.lemmas.Slice.Eq.{bytes_eq-Decides}
use Rattle.est_syntax.specs.Names.{is_name}
use Rattle.est_syntax.specs.declared.kind.Kind.{Kind}
use Rattle.est_syntax.specs.declared.ports.Port.{Port}
use Rattle.est_syntax.specs.declared.ports.Signal.{Signal}
use Rattle.est_meaning.specs.rule_scope.declared.declaration.Entry.{Entry}
use Rattle.est_meaning.specs.rule_scope.declared.declaration.Sort.TheVariants as sort
use Rattle.est_meaning.specs.rule_scope.declared.declaration.Standing.{Standing}
use Rattle.est_meaning.specs.rule_scope.Outline.{Outline, Region, names_of, entry_at, standing}
use Rattle.est_meaning.specs.rule_scope.Outline.{standing_in}
use Rattle.est_meaning.specs.rule_scope.Uses.{same_sort}
use Rattle.est_meaning.proofs.of_rule_declares.Names.{IsNew, AreOnce}
use Rattle.est_meaning.proofs.of_rule_declares.Regions.{region_name}
use Rattle.est_meaning.specs.rule_declares.OrdinalValues.{tuples_of}
use Rattle.est_meaning.specs.rule_declares.PortList.{signals_of, element, elements_with}
use Rattle.est_meaning.specs.rule_declares.PortList.{elements_by, ports_in}
use Rattle.rule_ports.proofs.Listing.{within, mapped, flat_get, flat_place, ahead}
use Rattle.rule_ports.proofs.Ranks.{unmapped}
use Rattle.plain_outside.specs.inside.NamedPlaces.{stands_at}

-- NAMES OF A REGION

-- a name that stands once is found where it stands
new_name : (name : List ℕ) (names : Region) (i : ℕ) (n : List ℕ × Standing)
    → IsNew region_name name names → slice_get names i ≡ Some n → is_name n.0 name ≡ false
new_name name [] i n h e = absurd cc
new_name name (x ∷ xs) zero n h e = by (is_name n.0 name) refl
  where
    by : (b : Bool) → is_name n.0 name ≡ b → b ≡ false
    by false q = refl
    by true q = absurd (h.0 (sym ((bytes_eq-Decides n.0 name).0 q)
        ∙ ap region_name (sym (same_Some x n e))))
new_name name (x ∷ xs) (suc i) n h e = new_name name xs i n h.1 e

pub found_once : (names : Region) (i : ℕ) (n : List ℕ × Standing) → AreOnce region_name names
    → slice_get names i ≡ Some n → lookup (is_name n.0) names ≡ Some n.1
found_once [] i n h e = absurd cc
found_once (x ∷ xs) zero n h e =
    let same : x ≡ n = same_Some x n e in
    let own : is_name n.0 x.0 ≡ true = (bytes_eq-Decides n.0 x.0).1 (ap region_name (sym same)) in
    ap (λ b. if b then Some x.1 else lookup (is_name n.0) xs) own
    ∙ ap (λ (y : List ℕ × Standing). Some y.1) same
found_once (x ∷ xs) (suc i) n h e =
    ap (λ b. if b then Some x.1 else lookup (is_name n.0) xs) (new_name x.0 xs i n h.0 e)
    ∙ found_once xs i n h.1 e

pub standing_is : (o : Outline) (header : ℕ) (name : List ℕ)
    → standing o header name ≡ lookup (is_name name) (names_of o header)
standing_is o header name = by (lookup (nat_eq header) o.regions)
  where
    by : (r : Option Region) → standing_in r name ≡ lookup (is_name name) (unwrap_or r [])
    by None = refl
    by (Some names) = refl

-- the first name of a region that stands at a place
pub record IsFirstAt (names : Region) (place : ℕ) (n : List ℕ × Standing) : Type 0 where
  pub number : ℕ
  pub stands : slice_get names number ≡ Some n
  pub there : n.1.place ≡ place
  pub least : (j : ℕ) (m : List ℕ × Standing) → slice_get names j ≡ Some m → m.1.place ≡ place
      → number ≤ j

pub first_at : (names : Region) (place : ℕ) (n : List ℕ × Standing)
    → find (stands_at place) names ≡ Some n → IsFirstAt names place n
first_at [] place n e = absurd cc
first_at (x ∷ xs) place n e = by (nat_eq place x.1.place) refl e (first_at xs place n)
  where
    by : (b : Bool) → nat_eq place x.1.place ≡ b
        → (if b then Some x else find (stands_at place) xs) ≡ Some n
        → (find (stands_at place) xs ≡ Some n → IsFirstAt xs place n)
        → IsFirstAt (x ∷ xs) place n
    by true q f rest = record {
      number = 0;
      stands = f;
      there = ap (λ (y : List ℕ × Standing). y.1.place) (sym (same_Some x n f))
          ∙ sym ((Decides-eqb place x.1.place).0 q);
      least = λ j m a b. omega arith;
    }
    by false q f rest =
        let r = rest f in
        record { number = suc r.number; stands = r.stands; there = r.there; least = least q r }
      where
        least : nat_eq place x.1.place ≡ false → (r : IsFirstAt xs place n)
            → (j : ℕ) (m : List ℕ × Standing) → slice_get (x ∷ xs) j ≡ Some m
            → m.1.place ≡ place → suc r.number ≤ j
        least q r zero m a b =
            let same : nat_eq place x.1.place ≡ true = (Decides-eqb place x.1.place).1
            (sym b ∙ ap (λ (y : List ℕ × Standing). y.1.place) (sym (same_Some x m a))) in
            absurd cc
        least q r (suc j) m a b = let l = r.least j m a b in omega (arith, l)

pub no_first : (names : Region) (place i : ℕ) (n : List ℕ × Standing)
    → find (stands_at place) names ≡ None → slice_get names i ≡ Some n → n.1.place ≡ place → ⊥
no_first [] place i n e s t = cc
no_first (x ∷ xs) place i n e s t =
    by (nat_eq place x.1.place) refl e i s (λ j f u. no_first xs place j n f u t)
  where
    by : (b : Bool) → nat_eq place x.1.place ≡ b
        → (if b then Some x else find (stands_at place) xs) ≡ None
        → (i : ℕ) → slice_get (x ∷ xs) i ≡ Some n
        → ((j : ℕ) → find (stands_at place) xs ≡ None → slice_get xs j ≡ Some n → ⊥) → ⊥
    by true q f i s rest = cc
    by false q f zero s rest =
        let same : nat_eq place x.1.place ≡ true = (Decides-eqb place x.1.place).1
        (sym t ∙ ap (λ (y : List ℕ × Standing). y.1.place) (sym (same_Some x n s))) in cc
    by false q f (suc i) s rest = rest i f s

-- PORTS OF AN ENTRY

-- what is declared makes no ports under any name, or these
abbrev pub Makes : Outline → Option Entry → List Kind → List Signal → Type 0
Makes o e ks signals =
    (name : List ℕ) → elements_by o name e ≡ map (element name ks signals) (tuples_of ks)

abbrev MakesNone : Outline → Option Entry → Type 0
MakesNone o e = (name : List ℕ) → elements_by o name e ≡ []

abbrev MadeSome : Outline → Option Entry → Type 0
MadeSome o e = (ks : List Kind) × ((signals : List Signal) × Makes o e ks signals)

made_by : (o : Outline) (e : Option Entry) → MakesNone o e ⊎ MadeSome o e
made_by o None = inl (λ name. refl)
made_by o (Some e) = by (same_sort sort.Point e.declared.sort) e.dims
  where
    by : (b : Bool) (dims : Option (List Kind))
        → ((name : List ℕ) → (if b then elements_with name (signals_of o e.side) dims else []) ≡ [])
        ⊎ ((ks : List Kind) × ((signals : List Signal) × ((name : List ℕ)
        → (if b then elements_with name (signals_of o e.side) dims else [])
        ≡ map (element name ks signals) (tuples_of ks))))
    by false dims = inl (λ name. refl)
    by true None = inl (λ name. refl)
    by true (Some ks) = inr (ks, (signals_of o e.side, λ name. refl))

-- THE PORTS OF A REGION

-- those of a name
abbrev pub ports_at : Outline → List ℕ × Standing → List Port
ports_at o n = elements_by o n.0 (entry_at o n.1.place)

-- where a port stands: which name it has, and which tuple its subscripts are
pub record IsPlaced (o : Outline) (names : Region) (k : ℕ) (p : Port) : Type 0 where
  pub name : List ℕ × Standing
  pub number : ℕ
  pub kinds : List Kind
  pub signals : List Signal
  pub tuple : List ℤ
  pub own : ℕ
  pub stands : slice_get names number ≡ Some name
  pub makes : Makes o (entry_at o name.1.place) kinds signals
  pub is_tuple : slice_get (tuples_of kinds) own ≡ Some tuple
  pub is : element name.0 kinds signals tuple ≡ p
  pub at : ahead (ports_at o) number names + own ≡ k

pub placed : (o : Outline) (names : Region) (k : ℕ) (p : Port)
    → slice_get (ports_in o names) k ≡ Some p → IsPlaced o names k p
placed o names k p e = by (made_by o (entry_at o n.1.place))
  where
    f : (g : ℕ) × ((x : List ℕ × Standing) × ((r : ℕ) × (slice_get names g ≡ Some x)
        × (slice_get (ports_at o x) r ≡ Some p) × (ahead (ports_at o) g names + r ≡ k)))
    f = flat_place (ports_at o) names k p e

    n : List ℕ × Standing
    n = f.1.0

    by : MakesNone o (entry_at o n.1.place) ⊎ MadeSome o (entry_at o n.1.place)
        → IsPlaced o names k p
    by (inl none) =
        let q : None ≡ Some p = ap (λ xs. slice_get xs f.1.1.0) (sym (none n.0)) ∙ f.1.1.2 in
        absurd cc
    by (inr made) =
        let u = unmapped (element n.0 made.0 made.1.0) (tuples_of made.0) f.1.1.0 p
        (ap (λ xs. slice_get xs f.1.1.0) (sym (made.1.1 n.0)) ∙ f.1.1.2) in
        record {
          name = n;
          number = f.0;
          kinds = made.0;
          signals = made.1.0;
          tuple = u.0;
          own = f.1.1.0;
          stands = f.1.1.1;
          makes = made.1.1;
          is_tuple = u.1;
          is = u.2;
          at = f.1.1.3;
        }

-- the port of a tuple of a name
pub port_of : (o : Outline) (names : Region) (g : ℕ) (n : List ℕ × Standing) (ks : List Kind)
    (signals : List Signal) (r : ℕ) (t : List ℤ) → slice_get names g ≡ Some n
    → Makes o (entry_at o n.1.place) ks signals → slice_get (tuples_of ks) r ≡ Some t
    → slice_get (ports_in o names) (ahead (ports_at o) g names + r)
    ≡ Some (element n.0 ks signals t)
port_of o names g n ks signals r t e makes is =
    let w = within (tuples_of ks) r t is in
    let k = length-map (tuples_of ks) (element n.0 ks signals) in
    let l : r < length (ports_at o n) = subst (λ (xs : List Port). r < length xs)
    (sym (makes n.0)) (omega (arith, w, k)) in
    flat_get (ports_at o) names g n r e l ∙ ap (λ (xs : List Port). slice_get xs r) (makes n.0)
    ∙ mapped (element n.0 ks signals) (tuples_of ks) r t is
