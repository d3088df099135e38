-- What stays in an outline as it grows.
use Rattle.std.proofs.Common.{◌≡◌, ℕ, ◌<◌, ◌≤◌, max, Bool, true, false, ◌&&◌, if◌then◌else◌}
use Rattle.std.proofs.Common.{List, [], ◌∷◌, ◌++◌, refl, sym, subst, ap, ◌∙◌, Option, inl, inr}
use Rattle.std.proofs.Common.{Some, None, nat_eq, is_some, arith}
use Rattle.std.proofs.lemmas.Option.{same_Some}
use Rattle.std.specs.Map.{lookup}
use Rattle.std.specs.Option.{option_or}
use Rattle.est_syntax.specs.Names.{spelled, is_name}
use Rattle.est_syntax.specs.declared.name.Used.{Used}
use Rattle.rule_scope.specs.declared.declaration.Entry.{Entry}
use Rattle.rule_scope.specs.declared.declaration.Extent.{Extent}
use Rattle.rule_scope.specs.declared.declaration.Member.{Member}
use Rattle.rule_scope.specs.declared.declaration.Standing.{Standing}
use Rattle.rule_scope.specs.declared.declaration.Within.{Within}
use Rattle.rule_scope.specs.Outline.{Outline, standing, standing_in, entry_at}
use Rattle.rule_scope.specs.Outline.{extent_at, from_or_before}
use Rattle.rule_scope.specs.Declaring.{declared_by, taken, put_by, amended_by, amended}
use Rattle.rule_scope.specs.Declaring.{named, lying, last_from}
use Rattle.rule_scope.proofs.Extents.{none_if}
use Rattle.law_places.specs.Growth.{IsOpen, is_completed, KeepsSort, IsOfCompleted, Grows, g_not}
use Rattle.law_places.specs.Growth.{g_then}
use Rattle.law_places.specs.Growth.{g_declared, g_put, g_amended, g_completed, g_lying}
use Rattle.law_places.specs.Growth.{IsLike, AreLike, Follows}
use Rattle.law_places.proofs.Tables.{one_number, two_numbers, tested}
use Rattle.law_places.proofs.Tables.{inserted_apart, set_here, set_apart, one_more}

-- what is known stays like itself
pub like_self : (unfinished : Bool) (x : Option Entry) → AreLike unfinished x x
like_self unfinished None = refl
like_self unfinished (Some e) = (e, refl, (refl, λ h. refl))

pub like_same : (unfinished : Bool) (x y : Option Entry) → y ≡ x → AreLike unfinished x y
like_same unfinished x y e = subst (λ z. AreLike unfinished x z) (sym e) (like_self unfinished x)

pub like_then : (unfinished : Bool) (x y z : Option Entry) → AreLike unfinished x y
    → AreLike unfinished y z → AreLike unfinished x z
like_then unfinished None y z h k = subst (λ v. AreLike unfinished v z) h k
like_then unfinished (Some e) y z h k =
    let m : AreLike unfinished (Some h.0) z = subst (λ v. AreLike unfinished v z) h.1 k in (
      m.0,
      m.1,
      (
        m.2.0 ∙ h.2.0,
        λ q. m.2.1 (ap (λ d. unfinished && is_completed d.sort) h.2.0 ∙ q) ∙ h.2.1 q,
      ),
    )

pub like_unfinished : (unfinished : Bool) (x y : Option Entry) → AreLike unfinished x y
    → AreLike true x y
like_unfinished unfinished None y h = h
like_unfinished true (Some e) y h = h
like_unfinished false (Some e) y h = (h.0, h.1, (h.2.0, λ q. h.2.1 refl))

pub like_present : (unfinished : Bool) (x y : Option Entry) → AreLike unfinished x y
    → is_some y ≡ is_some x
like_present unfinished None y h = ap is_some h
like_present unfinished (Some e) y h = ap is_some h.1

-- the name that is new where one stands more
new_name : (x : Option Standing) (b c : Bool) (s t : Standing) → x ≡ None
    → option_or x (if b then (if c then Some s else None) else None) ≡ Some t → t ≡ s
new_name (Some x) b c s t e h = cc
new_name None true true s t e h = sym (same_Some s t h)
new_name None true false s t e h = cc
new_name None false c s t e h = cc

stays_first : (x y : Option Standing) (s : Standing) → x ≡ Some s → option_or x y ≡ Some s
stays_first None y s e = cc
stays_first (Some x) y s e = e

module _ (o : Outline) (region : ℕ) (name : List ℕ) (s : Standing) where
  -- the outline with one name more
  abbrev pub Stood : ℕ → List ℕ → Option Standing
  Stood q n = standing_in (lookup (nat_eq q) (named o region name s)) n

  pub named_stays : (q : ℕ) (n : List ℕ) (t : Standing) → standing o q n ≡ Some t
      → Stood q n ≡ Some t
  named_stays q n t h =
      one_more o.regions region name s q n
      ∙ stays_first (standing o q n)
      (if nat_eq q region then (if is_name n name then Some s else None) else None) t h

  pub named_new : (q : ℕ) (n : List ℕ) (t : Standing) → standing o q n ≡ None → Stood q n ≡ Some t
      → t ≡ s
  named_new q n t h k = new_name (standing o q n) (nat_eq q region) (is_name n name) s t h
      (sym (one_more o.regions region name s q n) ∙ k)

  -- another region gets no name
  named_apart : (q : ℕ) (n : List ℕ) → (q ≡ region → ⊥) → standing o q n ≡ None → Stood q n ≡ None
  named_apart q n not h =
      one_more o.regions region name s q n
      ∙ (λ i. option_or (h i) (if two_numbers q region not i
      then (if is_name n name then Some s else None) else None))

-- an extent that begins later changes nothing before it
extent_before : (es : List Extent) (e : Extent) (place : ℕ) → place < e.from
    → extent_at (es ++ e ∷ []) place ≡ extent_at es place
extent_before [] e place l = none_if place e.from e l
extent_before (x ∷ es) e place l =
    ap (λ r. option_or r (from_or_before place x)) (extent_before es e place l)

module _ (R : ℕ → Type 0) (unfinished : Bool) (a b : ℕ) where
  follow_self : (o : Outline) → Follows R unfinished a b o o
  follow_self o = record {
    extents = λ place l. refl;
    stands = λ region name s h. h;
    news = λ region name s h k. absurd cc;
    apart = λ region l r name h. h;
    entries = λ place l. like_self unfinished (entry_at o place);
    after = λ place l h. h;
    members = λ place l. refl;
  }

  follow_then : (o x p : Outline) → Follows R unfinished a b o x → Follows R unfinished a b x p
      → Follows R unfinished a b o p
  follow_then o x p f g = record {
    extents = λ place l. g.extents place l ∙ f.extents place l;
    stands = λ region name s h. g.stands region name s (f.stands region name s h);
    news = λ region name s h k. new region name s h k (standing x region name) refl;
    apart = λ region l r name h. g.apart region l r name (f.apart region l r name h);
    entries = λ place l. like_then unfinished (entry_at o place) (entry_at x place) (entry_at p
        place)
        (f.entries place l) (g.entries place l);
    after = λ place l h. g.after place l (f.after place l h);
    members = λ place l. g.members place l ∙ f.members place l;
  }
    where
      new : (region : ℕ) (name : List ℕ) (s : Standing) → standing o region name ≡ None
          → standing p region name ≡ Some s → (y : Option Standing) → standing x region name ≡ y
          → (a ≤ s.place) × (s.place < b) × (s.place ≤ s.last)
      new region name s h k None e = g.news region name s e k
      new region name s h k (Some t) e =
          let same : t ≡ s = same_Some t s (sym (g.stands region name t e) ∙ k) in
          subst (λ v. (a ≤ v.place) × (v.place < b) × (v.place ≤ v.last)) same
          (f.news region name t h e)

  -- a region that is not open is another than one that gets a name
  closed_region : (q region : ℕ) → IsOpen R a region → q < a → (R q → ⊥) → q ≡ region → ⊥
  closed_region q region (inl r) l not e = not (subst R (sym e) r)
  closed_region q region (inr m) l not e = absurd (omega arith)

  follow_declared : (t : Option Standing) (o : Outline) (w : Within) (u : Used) (last : ℕ)
      (e : Entry) → IsOpen R a w.region → a ≤ u.place → u.place < b → u.place ≤ last
      → Follows R unfinished a b o (declared_by t w u last e o)
  follow_declared (Some s) o w u last e own l m n = follow_self o
  follow_declared None o w u last e own l m n =
      let s : Standing = record { place = u.place; last = last } in
      record {
        extents = λ place i. refl;
        stands = λ region name t h. named_stays o w.region (spelled u) s region name t h;
        news = λ region name t h k.
            subst (λ v. (a ≤ v.place) × (v.place < b) × (v.place ≤ v.last))
            (sym (named_new o w.region (spelled u) s region name t h k)) (l, m, n);
        apart = λ region i r name h. named_apart o w.region (spelled u) s region name
            (closed_region region w.region own i r) h;
        entries = λ place i. like_same unfinished (entry_at o place)
            (lookup (nat_eq place) (declared_by None w u last e o).entries)
            (inserted_apart u.place e place o.entries
            (two_numbers place u.place (λ q. omega arith)));
        after = λ place i h. inserted_apart u.place e place o.entries
            (two_numbers place u.place (λ q. omega arith)) ∙ h;
        members = λ place i. refl;
      }

  follow_put : (t : Option Standing) (o : Outline) (region : ℕ) (u : Used) (m : Member)
      → IsOpen R a region → a ≤ u.place → u.place < b
      → Follows R unfinished a b o (put_by t region u m o)
  follow_put (Some s) o region u m out l n = follow_self o
  follow_put None o region u m out l n =
      let s : Standing = record { place = u.place; last = u.place } in
      record {
        extents = λ place i. refl;
        stands = λ q name t h. named_stays o region (spelled u) s q name t h;
        news = λ q name t h k.
            subst (λ v. (a ≤ v.place) × (v.place < b) × (v.place ≤ v.last))
            (sym (named_new o region (spelled u) s q name t h k)) (l, n, omega arith);
        apart = λ q i r name h. named_apart o region (spelled u) s q name
            (closed_region q region out i r) h;
        entries = λ place i. like_self unfinished (entry_at o place);
        after = λ place i h. h;
        members = λ place i. inserted_apart u.place m place o.members
            (two_numbers place u.place (λ q. omega arith));
      }

  -- what is known at a place changes to what is like it
  follow_changed : (x : Option Entry) (o : Outline) (f : Entry → Entry) (place : ℕ)
      → entry_at o place ≡ x
      → ((q : ℕ) (e : Entry) → q < a → q ≡ place → x ≡ Some e → IsLike unfinished e (f e))
      → Follows R unfinished a b o (amended_by x f place o)
  follow_changed None o f place h like = follow_self o
  follow_changed (Some e) o f place h like = record {
    extents = λ q i. refl;
    stands = λ region name s k. k;
    news = λ region name s k l. absurd cc;
    apart = λ region l r name k. k;
    entries = λ q i. tested (nat_eq q place) (λ t. same q i (one_number q place t)) (apart q);
    after = λ q i k. tested (nat_eq q place)
        (λ t. absurd (no_entry q (one_number q place t) k))
        (λ t. set_apart place (f e) q o.entries t ∙ k);
    members = λ q i. refl;
  }
    where
      apart : (q : ℕ) → nat_eq q place ≡ false → AreLike unfinished (entry_at o q)
          (lookup (nat_eq q) (amended_by (Some e) f place o).entries)
      apart q t = like_same unfinished (entry_at o q)
          (lookup (nat_eq q) (amended_by (Some e) f place o).entries)
          (set_apart place (f e) q o.entries t)

      same : (q : ℕ) → q < a → q ≡ place → AreLike unfinished (entry_at o q)
          (lookup (nat_eq q) (amended_by (Some e) f place o).entries)
      same q i t = subst (λ z. AreLike unfinished (entry_at o z)
          (lookup (nat_eq z) (amended_by (Some e) f place o).entries)) (sym t)
          (subst (λ z. AreLike unfinished z
          (lookup (nat_eq place) (amended_by (Some e) f place o).entries)) (sym h)
          (f e, set_here place (f e) o.entries e h, like q e i t refl))

      no_entry : (q : ℕ) → q ≡ place → entry_at o q ≡ None → ⊥
      no_entry q t k = cc (sym h ∙ ap (entry_at o) (sym t) ∙ k)

  follow_lying : (o : Outline) (w : Within) (place : ℕ) → a ≤ place
      → Follows R unfinished a b o (lying w place o)
  follow_lying o w place l = record {
    extents = λ q i. extent_before o.extents record {
      from = max (last_from o.extents 0) place;
      own = w.own;
      around = w.around;
    } q (omega arith);
    stands = λ region name s h. h;
    news = λ region name s h k. absurd cc;
    apart = λ region l r name h. h;
    entries = λ q i. like_self unfinished (entry_at o q);
    after = λ q i h. h;
    members = λ q i. refl;
  }

  -- a change within the two places, and one of a sort that is completed
  follow_amended : (o : Outline) (f : Entry → Entry) (place : ℕ) → a ≤ place
      → Follows R unfinished a b o (amended f place o)
  follow_amended o f place l =
      follow_changed (entry_at o place) o f place refl (λ q e i t h. absurd (omega arith))

  follow_completed : (o : Outline) (f : Entry → Entry) (place : ℕ) → unfinished ≡ true → KeepsSort f
      → IsOfCompleted o place → Follows R unfinished a b o (amended f place o)
  follow_completed o f place h k s =
      follow_changed (entry_at o place) o f place refl
      (λ q e i t x. (k e, λ n. absurd (both_ways (is_completed e.declared.sort) h (s e x) n)))
    where
      both_ways : (c : Bool) → unfinished ≡ true → c ≡ true → (unfinished && c) ≡ false → ⊥
      both_ways true h k n = let m : (true && true) ≡ false = subst (λ v. (v && true) ≡ false) h n
          in cc
      both_ways false h k n = cc

  -- an outline that grows is followed
  pub followed : {o p : Outline} → Grows R unfinished a b o p → Follows R unfinished a b o p
  followed (g_not {o}) = follow_self o
  followed (g_then {o} {x} {p} g h) = follow_then o x p (followed g) (followed h)
  followed (g_declared {o} w own u last e l m n) =
      follow_declared (taken o w (spelled u)) o w u last e own l m n
  followed (g_put {o} region out u m l n) =
      follow_put (standing o region (spelled u)) o region u m out l n
  followed (g_amended {o} f place l k) = follow_amended o f place l
  followed (g_completed {o} f place h k s) = follow_completed o f place h k s
  followed (g_lying {o} w place l m) = follow_lying o w place l
