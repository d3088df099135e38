-- A region keeps its names where an outline grows by what stands in others.
use Rattle.std.specs.Map.{lookup}
use Rattle.std.proofs.Common.{◌≡◌, refl, sym, ap, subst, ◌∙◌, ℕ, ◌<◌, ◌≤◌, Bool, true, false}
use Rattle.std.proofs.Common.{List, [], ◌∷◌, Option, Some, None, is_some, inl, inr, arith, nat_eq}
use Rattle.std.specs.Prelude.{unwrap_or}
use Rattle.est_syntax.specs.Names.{spelled}
use Rattle.est_syntax.specs.declared.body.Part.{Part, out-Part}
use Rattle.est_syntax.specs.declared.body.Part.TheVariants as part
use Rattle.est_syntax.specs.declared.name.Used.{Used}
use Rattle.rule_scope.specs.Declaring.{taken, declared_by, put_by, amended_by}
use Rattle.rule_scope.specs.Declaring.{amended, with_kind, with_closed}
use Rattle.rule_scope.specs.Outline.{Outline, Region, names_of, entry_at, standing}
use Rattle.rule_scope.specs.declared.declaration.Entry.{Entry}
use Rattle.rule_scope.specs.declared.declaration.Measured.{Measured}
use Rattle.rule_scope.specs.declared.declaration.Member.{Member}
use Rattle.rule_scope.specs.declared.declaration.Standing.{Standing}
use Rattle.rule_scope.specs.declared.declaration.Within.{Within}
use Rattle.rule_declares.specs.Bodies.{closed_by}
use Rattle.rule_declares.specs.Declares.{kinds_given}
use Rattle.law_places.specs.Growth.{IsOpen, Grows, g_not, g_then, g_declared, g_put, g_amended}
use Rattle.law_places.specs.Growth.{g_completed, g_lying}
use Rattle.law_places.proofs.Following.{followed, like_present}
use Rattle.law_places.proofs.Tables.{one_number, two_numbers, tested, set_here, set_apart}
use Rattle.law_sentences.proofs.ParametersKept.{other_names}

-- another region than this one
abbrev pub IsNot : ℕ → ℕ → Type 0
IsNot p region = region ≡ p → ⊥

-- In a later outline a region has the names that it had, and before a place something is declared
-- where it was.
pub record Stays (p c : ℕ) (o f : Outline) : Type 0 where
  pub names : names_of f p ≡ names_of o p
  pub declares : (q : ℕ) → q < c → is_some (entry_at f q) ≡ is_some (entry_at o q)

pub stays_self : (p c : ℕ) (o : Outline) → Stays p c o o
stays_self p c o = record { names = refl; declares = λ q l. refl }

pub stays_then : (p c d : ℕ) (o x f : Outline) → c ≤ d → Stays p c o x → Stays p d x f
    → Stays p c o f
stays_then p c d o x f l h k = record {
  names = k.names ∙ h.names;
  declares = λ q n. k.declares q (omega arith) ∙ h.declares q n;
}

module _ (p : ℕ) where
  -- one name more in another region
  apart_from : (a region : ℕ) → p < a → IsOpen (IsNot p) a region → nat_eq p region ≡ false
  apart_from a region l (inl r) = two_numbers p region (λ e. r (sym e))
  apart_from a region l (inr m) = two_numbers p region (λ e. omega arith)

  declared_names : (t : Option Standing) (o : Outline) (w : Within) (u : Used) (last : ℕ)
      (e : Entry) → nat_eq p w.region ≡ false
      → names_of (declared_by t w u last e o) p ≡ names_of o p
  declared_names (Some s) o w u last e h = refl
  declared_names None o w u last e h =
      ap (λ (y : Option Region). unwrap_or y [])
      (other_names (lookup (nat_eq w.region) o.regions) o.regions w.region p (spelled u)
      record { place = u.place; last = last } h)

  put_names : (t : Option Standing) (o : Outline) (region : ℕ) (u : Used) (m : Member)
      → nat_eq p region ≡ false → names_of (put_by t region u m o) p ≡ names_of o p
  put_names (Some s) o region u m h = refl
  put_names None o region u m h =
      ap (λ (y : Option Region). unwrap_or y [])
      (other_names (lookup (nat_eq region) o.regions) o.regions region p (spelled u)
      record { place = u.place; last = u.place } h)

  amended_names : (x : Option Entry) (o : Outline) (f : Entry → Entry) (place : ℕ)
      → names_of (amended_by x f place o) p ≡ names_of o p
  amended_names None o f place = refl
  amended_names (Some e) o f place = refl

  grown_names : (unfinished : Bool) (a b : ℕ) {o f : Outline} → p < a
      → Grows (IsNot p) unfinished a b o f → names_of f p ≡ names_of o p
  grown_names unfinished a b l g_not = refl
  grown_names unfinished a b l (g_then g h) =
      grown_names unfinished a b l h ∙ grown_names unfinished a b l g
  grown_names unfinished a b l (g_declared {o} w own u last e m n k) =
      declared_names (taken o w (spelled u)) o w u last e (apart_from a w.region l own)
  grown_names unfinished a b l (g_put {o} region out u m n k) =
      put_names (standing o region (spelled u)) o region u m (apart_from a region l out)
  grown_names unfinished a b l (g_amended {o} f place m k) =
      amended_names (entry_at o place) o f place
  grown_names unfinished a b l (g_completed {o} f place h k s) =
      amended_names (entry_at o place) o f place
  grown_names unfinished a b l (g_lying w place m n) = refl

  -- what grows in other regions, from a later place on
  pub grown_stays : (unfinished : Bool) (a b : ℕ) (o f : Outline) → p < a
      → Grows (IsNot p) unfinished a b o f → Stays p a o f
  grown_stays unfinished a b o f l g = record {
    names = grown_names unfinished a b l g;
    declares = λ q n. like_present unfinished (entry_at o q) (entry_at f q)
        ((followed (IsNot p) unfinished a b g).entries q n);
  }

  -- what becomes known of a declaration
  amended_some : (x : Option Entry) (o : Outline) (f : Entry → Entry) (place : ℕ)
      → entry_at o place ≡ x → (q : ℕ)
      → is_some (entry_at (amended_by x f place o) q) ≡ is_some (entry_at o q)
  amended_some None o f place is q = refl
  amended_some (Some e) o f place is q = tested (nat_eq q place) same
      (λ t. ap is_some (set_apart place (f e) q o.entries t))
    where
      same : nat_eq q place ≡ true
          → is_some (entry_at (amended_by (Some e) f place o) q) ≡ is_some (entry_at o q)
      same t = subst (λ (z : ℕ). is_some (entry_at (amended_by (Some e) f place o) z)
          ≡ is_some (entry_at o z)) (sym (one_number q place t))
          (ap is_some (set_here place (f e) o.entries e is) ∙ sym (ap is_some is))

  pub amended_stays : (c : ℕ) (o : Outline) (f : Entry → Entry) (place : ℕ)
      → Stays p c o (amended f place o)
  amended_stays c o f place = record {
    names = amended_names (entry_at o place) o f place;
    declares = λ q l. amended_some (entry_at o place) o f place refl q;
  }

  pub kinds_stay : (c : ℕ) (us : List Used) (k : Option Measured) (o : Outline)
      → Stays p c o (kinds_given us k o)
  kinds_stay c [] k o = stays_self p c o
  kinds_stay c (u ∷ us) k o =
      let o1 = amended (with_kind k) u.place o in
      stays_then p c c o o1 (kinds_given us k o1) (omega arith)
      (amended_stays c o (with_kind k) u.place) (kinds_stay c us k o1)

  pub closed_stays : (c : ℕ) (x : Part) (o : Outline) → Stays p c o (closed_by x o)
  unfolding out-Part denote.Hole.Carrier.out
  closed_stays c (part.Routine' name formals result a parts statements place) o =
      amended_stays c o (with_closed _) name.place
  closed_stays c _ o = stays_self p c o
