-- What a routine may name is the same in the outline where its text ends and in the whole one.
use Rattle.std.proofs.Common.{◌≡◌, ℕ, ◌<◌, Bool, true, false, ◌&&◌, if◌then◌else◌, List, []}
use Rattle.std.proofs.Common.{◌∷◌, refl, sym, subst, ap, ◌∙◌, Option, Some, None, nat_lt}
use Rattle.std.proofs.Common.{arith}
use Rattle.std.proofs.lemmas.Option.{same_Some}
use Rattle.est_syntax.specs.Names.{spelled}
use Rattle.rule_scope.specs.declared.predeclared.PredeclaredName.{PredeclaredName}
use Rattle.rule_scope.specs.Predeclared.{predeclared_name}
use Rattle.est_syntax.specs.declared.name.Used.{Used}
use Rattle.rule_scope.specs.declared.declaration.Entry.{Entry}
use Rattle.rule_scope.specs.declared.declaration.Extent.{Extent}
use Rattle.rule_scope.specs.declared.declaration.Sort.{Sort}
use Rattle.rule_scope.specs.declared.declaration.Sort.TheVariants as sort
use Rattle.rule_scope.specs.declared.declaration.Standing.{Standing}
use Rattle.rule_scope.specs.Outline.{Outline, standing, entry_at, extent_at, in_force, found}
use Rattle.rule_scope.specs.Outline.{is_shared, seen_around, meant_by, meant_within}
use Rattle.rule_scope.specs.Declaring.{amended, with_closed}
use Rattle.rule_uses.specs.Closed.{is_free_sort, is_free_entry, is_free_meant, is_free, all_free}
use Rattle.law_places.specs.Growth.{Anywhere, is_completed, IsOfCompleted, AreLike, Grows, g_then}
use Rattle.law_places.specs.Growth.{g_completed, IsBefore}
use Rattle.law_places.specs.Later.{Later}
use Rattle.law_places.proofs.Tables.{same_number}
use Rattle.law_places.proofs.Following.{followed}
use Rattle.law_places.proofs.Lasting.{later_grown, grows_unfinished}
use Rattle.law_places.proofs.Meanings.{found_stays}
use Rattle.law_places.proofs.Declared.{amended_here, amended_apart, either_place}
use Rattle.law_places.proofs.UsesInExpressions.{AreBefore}

-- what is found stands before the place that all stands before
found_before : (j : ℕ) (o : Outline) → IsBefore j o → (rs : List ℕ) (name : List ℕ) (q z : ℕ)
    → found o rs name q ≡ Some z → z < j
found_before j o before [] name q z h = absurd cc
found_before j o before (r ∷ rs) name q z h =
    by (standing o r name) refl h (found_before j o before rs name q z)
  where
    forced : (s : Standing) → standing o r name ≡ Some s → (b : Bool)
        → (if b then Some s.place else found o rs name q) ≡ Some z
        → (found o rs name q ≡ Some z → z < j) → z < j
    forced s e true k rest =
        subst (λ x. x < j) (same_Some s.place z k) (before.names r name s e)
    forced s e false k rest = rest k

    by : (y : Option Standing) → standing o r name ≡ y
        → in_force y q (found o rs name q) ≡ Some z → (found o rs name q ≡ Some z → z < j) → z < j
    by None e k rest = rest k
    by (Some s) e k rest = forced s e (nat_lt s.last q) k rest

-- a routine may name itself, whether it is closed or not
own_free : (s : Sort) (closed : Bool) (place : ℕ) → is_completed s ≡ true
    → is_free_sort s closed place place ≡ true
own_free sort.Procedure closed place h =
    ap (λ (t : Bool). if t then true else closed) (same_number place)
own_free sort.Function closed place h =
    ap (λ (t : Bool). if t then true else closed) (same_number place)
own_free sort.Body closed place h = refl
own_free s closed place h = absurd cc

own_entry : (place : ℕ) (x : Option Entry)
    → ((e : Entry) → x ≡ Some e → is_completed e.declared.sort ≡ true)
    → is_free_entry x place place ≡ true
own_entry place None h = refl
own_entry place (Some e) h = own_free e.declared.sort e.closed place (h e refl)

-- what is declared outside the texts of routines is the same later
same_strict : (x y : Option Entry) → AreLike false x y → y ≡ x
same_strict None y h = h
same_strict (Some e) y h = h.1 ∙ ap (λ (z : Entry). Some z) (h.2.1 refl)

around_free : (o : Outline) (routine : ℕ) (t : Bool) (z : ℕ)
    → is_free_meant o routine (seen_around t z) ≡ is_free_entry (entry_at o z) routine z
around_free o routine true z = refl
around_free o routine false z = refl

module _ (j b place : ℕ) (c : Bool) (o p : Outline) (l : place < j) (before : IsBefore j o)
    (own : IsOfCompleted o place)
    (rest : Grows Anywhere false j b (amended (with_closed c) place o) p) where
  closed_grows : Grows Anywhere true j b o p
  closed_grows = g_then (g_completed (with_closed c) place refl (λ e. refl) own)
      (grows_unfinished Anywhere j b rest)

  -- what is declared before the end may be named, or not, as in the whole outline
  entry_free : (z : ℕ) → z < j
      → is_free_entry (entry_at p z) place z ≡ is_free_entry (entry_at o z) place z
  entry_free z m =
      let o1 = amended (with_closed c) place o in
      let same : entry_at p z ≡ entry_at o1 z =
      same_strict (entry_at o1 z) (entry_at p z)
      ((followed Anywhere false j b rest).entries z m) in
      either_place z place (λ t. at_own z t same)
      (λ t. ap (λ x. is_free_entry x place z) (same ∙ amended_apart (with_closed c) place o z t))
    where
      closed_own : (e : Entry) → entry_at (amended (with_closed c) place o) place ≡ Some e
          → is_completed e.declared.sort ≡ true
      closed_own e at =
          let d = amended_here (with_closed c) place o e at in
          ap (λ (x : Entry). is_completed x.declared.sort) d.2 ∙ own d.0 d.1

      at_own : (z : ℕ) → z ≡ place
          → entry_at p z ≡ entry_at (amended (with_closed c) place o) z
          → is_free_entry (entry_at p z) place z ≡ is_free_entry (entry_at o z) place z
      at_own z t same = subst (λ y. entry_at p y ≡ entry_at (amended (with_closed c) place o) y
          → is_free_entry (entry_at p y) place y ≡ is_free_entry (entry_at o y) place y) (sym t)
          (λ k. own_entry place (entry_at p place) (λ e at. closed_own e (sym k ∙ at))
          ∙ sym (own_entry place (entry_at o place) own)) same

  free_by : (known : Option PredeclaredName) (x y : Option ℕ) → ((z : ℕ) → x ≡ Some z → z < j)
      → ((z : ℕ) → y ≡ Some z → z < j)
      → is_free_meant p place (meant_by p known x y) ≡ is_free_meant o place (meant_by o known x y)
  free_by known (Some z) y h k = entry_free z (h z refl)
  free_by known None (Some z) h k =
      around_free p place (is_shared (entry_at p z)) z
      ∙ entry_free z (k z refl)
      ∙ sym (around_free o place (is_shared (entry_at o z)) z)
  free_by None None None h k = refl
  free_by (Some n) None None h k = refl

  free_within : (q : ℕ) → Later j q o p → (x : Option Extent) (name : List ℕ)
      → is_free_meant p place (meant_within p x name q)
      ≡ is_free_meant o place (meant_within o x name q)
  free_within q later None name =
      free_by (predeclared_name name) None None (λ z h. absurd cc) (λ z h. absurd cc)
  free_within q later (Some e) name =
      (λ i. is_free_meant p place (meant_by p (predeclared_name name)
      (found_stays j q o p later e.own name q (omega arith) i)
      (found_stays j q o p later e.around name q (omega arith) i)))
      ∙ free_by (predeclared_name name) (found o e.own name q) (found o e.around name q)
      (found_before j o before e.own name q) (found_before j o before e.around name q)

  -- a name before the end may be named, or not, as in the whole outline
  free_stays : (u : Used) → u.place < j → is_free p place u ≡ is_free o place u
  free_stays u m =
      let later : Later j u.place o p =
      later_grown Anywhere true j b o p closed_grows before u.place m in
      ap (λ x. is_free_meant p place (meant_within p x (spelled u) u.place))
      (later.extents u.place (omega arith))
      ∙ free_within u.place later (extent_at o.extents u.place) (spelled u)

  pub all_free_stay : (us : List Used) → AreBefore j us → all_free p place us ≡ all_free o place us
  all_free_stay [] h = refl
  all_free_stay (u ∷ us) h = λ i. free_stays u h.0 i && all_free_stay us h.1 i
