-- The constants of an enumeration that are all declared have different names.
use Rattle.std.proofs.Common.{◌≡◌, ℕ, suc, ◌≤◌, true, if◌then◌else◌}
use Rattle.std.proofs.Common.{List, [], ◌∷◌, refl, sym, ap, ◌∙◌, true≢false, Option}
use Rattle.std.proofs.Common.{Some, None, is_some, arith}
use Rattle.std.proofs.lemmas.Bool.{and_parts}
use Rattle.std.proofs.lemmas.Slice.Eq.{bytes_eq-Decides}
use Rattle.std.specs.Option.{option_or}
use Rattle.est_syntax.specs.Names.{spelled}
use Rattle.est_syntax.specs.declared.name.Used.{Used}
use Rattle.rule_scope.specs.declared.declaration.Entry.{Entry}
use Rattle.rule_scope.specs.declared.declaration.Standing.{Standing}
use Rattle.rule_scope.specs.declared.declaration.Within.{Within}
use Rattle.rule_scope.specs.Outline.{Outline, standing, entry_at}
use Rattle.rule_scope.specs.Declaring.{declared, declared_by, taken, standing_of}
use Rattle.rule_kinds.specs.TypeTexts.{are_declared}
use Rattle.rule_declares.specs.Entries.{numbered}
use Rattle.rule_declares.specs.Declares.{numbers_declare}
use Rattle.rule_declares.proofs.Names.{IsNew, AreOnce}
use Rattle.law_places.specs.Said.{Each}
use Rattle.law_places.proofs.Declared.{declared_stands, declared_other, numbers_other}
use Rattle.law_places.proofs.Placed.{NamesPlaced}
use Rattle.law_places.proofs.Tables.{one_more, same_number}

-- the first of two where either is
no_first : {A : Type 0} (x y : Option A) → option_or x y ≡ None → x ≡ None
no_first None y h = refl
no_first (Some x) y h = cc

-- a name at whose place nothing was declared, and something is then, was not taken
was_free : (o : Outline) (w : Within) (u : Used) (last : ℕ) (e : Entry)
    → entry_at o u.place ≡ None
    → is_some (entry_at (declared w u last e o) u.place) ≡ true → taken o w (spelled u) ≡ None
was_free o w u last e none some = by (taken o w (spelled u)) some
  where
    by : (t : Option Standing) → is_some (entry_at (declared_by t w u last e o) u.place) ≡ true
        → t ≡ None
    by None h = refl
    by (Some s) h = absurd (true≢false (sym h ∙ ap is_some none))

-- such a name does not stand in its region before, and stands there then
stood_not : (o : Outline) (w : Within) (name : List ℕ) → taken o w name ≡ None
    → standing o w.region name ≡ None
stood_not o w name h = no_first (standing o w.region name) (standing_of o w.header name) h

stands_then : (o : Outline) (w : Within) (u : Used) (last : ℕ) (e : Entry)
    → taken o w (spelled u) ≡ None
    → standing (declared w u last e o) w.region (spelled u)
    ≡ Some record { place = u.place; last = last }
stands_then o w u last e h =
    ap (λ (t : Option Standing). standing (declared_by t w u last e o) w.region name) h
    ∙ one_more o.regions w.region name s w.region name
    ∙ (λ i. option_or (stood_not o w name h i) (if same_number w.region i
    then (if (bytes_eq-Decides name name).1 refl i then Some s else None) else None))
  where
    name : List ℕ
    name = spelled u

    s : Standing
    s = record { place = u.place; last = last }

-- a name does not stand in a region
abbrev StandsNot : Outline → ℕ → Used → Type 0
StandsNot o region u = standing o region (spelled u) ≡ None

-- what does not stand after a declaration did not stand before it
not_before : (o : Outline) (w : Within) (u : Used) (last : ℕ) (e : Entry) (us : List Used)
    → Each (StandsNot (declared w u last e o) w.region) us → Each (StandsNot o w.region) us
not_before o w u last e [] h = tt
not_before o w u last e (v ∷ vs) h =
    (by (standing o w.region (spelled v)) refl, not_before o w u last e vs h.1)
  where
    by : (x : Option Standing) → standing o w.region (spelled v) ≡ x → x ≡ None
    by None is = refl
    by (Some s) is =
        let stays =
        declared_stands (taken o w (spelled u)) o w u last e w.region (spelled v) s is in
        let gone : ◌≡◌ {A = Option Standing} (Some s) None = sym stays ∙ h.0 in
        absurd (true≢false (ap is_some gone))

-- a name that stands in a region is none of those that do not
is_new : (o : Outline) (region : ℕ) (name : List ℕ) (s : Standing) (us : List Used)
    → standing o region name ≡ Some s → Each (StandsNot o region) us → IsNew spelled name us
is_new o region name s [] is h = tt
is_new o region name s (v ∷ vs) is h = (
  λ same.
      let gone : ◌≡◌ {A = Option Standing} (Some s) None =
      sym is ∙ ap (standing o region) same ∙ h.0 in
      true≢false (ap is_some gone),
  is_new o region name s vs is h.1,
)

-- so it is of the constants of an enumeration
abbrev AreFresh : Outline → Within → List Used → Type 0
AreFresh o w us = Each (StandsNot o w.region) us × AreOnce spelled us

pub numbers_once : (w : Within) (us : List Used) (last n : ℕ) (o : Outline) (i j : ℕ)
    → NamesPlaced i j us → ((q : ℕ) → i ≤ q → entry_at o q ≡ None)
    → are_declared (numbers_declare w us last n o) us ≡ true → AreFresh o w us
numbers_once w [] last n o i j h none all = (tt, tt)
numbers_once w (u ∷ us) last n o i j h none all =
    let m = h.0 in
    let e = numbered w n in
    let o1 = declared w u last e o in
    let o2 = numbers_declare w us last (suc n) o1 in
    let k = and_parts (is_some (entry_at o2 u.place)) (are_declared o2 us) all in
    let here = numbers_other w us last (suc n) o1 (suc u.place) j u.place h.1 (omega arith) in
    let free = was_free o w u last e (none u.place m) (sym (ap is_some here) ∙ k.0) in
    let rest = numbers_once w us last (suc n) o1 (suc u.place) j h.1
    (λ q l. declared_other (taken o w (spelled u)) o w u last e q (λ k. omega arith)
    ∙ none q (omega arith)) k.1 in
    let s : Standing = record { place = u.place; last = last } in (
      (stood_not o w (spelled u) free, not_before o w u last e us rest.0),
      (is_new o1 w.region (spelled u) s us (stands_then o w u last e free) rest.0, rest.1),
    )
