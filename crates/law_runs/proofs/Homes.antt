-- Where the names of `all`s stand while an outline grows: in regions of their own.
use Rattle.std.proofs.Common.{◌≡◌, ℕ, ◌<◌, ◌≤◌, max, Bool, false, refl, sym, subst, ap, ◌∙◌}
use Rattle.std.proofs.Common.{List, [], ◌∷◌, ◌++◌, Option, Some, None, inl, inr, nat_lt, arith}
use Rattle.std.specs.Prelude.{◌⊎◌}
use Rattle.std.proofs.lemmas.Option.{same_Some, none-some}
use Rattle.std.proofs.lemmas.Bool.Decides.{nat_tests}
use Rattle.est_syntax.specs.Names.{spelled}
use Rattle.est_syntax.specs.declared.name.Used.{Used}
use Rattle.rule_scope.specs.declared.declaration.Entry.{Entry}
use Rattle.rule_scope.specs.declared.declaration.Extent.{Extent}
use Rattle.rule_scope.specs.declared.declaration.Member.{Member}
use Rattle.rule_scope.specs.declared.declaration.Standing.{Standing}
use Rattle.rule_scope.specs.declared.declaration.Within.{Within}
use Rattle.rule_scope.specs.Outline.{Outline, standing, entry_at, member_at, extent_at}
use Rattle.rule_scope.specs.Declaring.{declared_by, taken, put_by, amended_by, amended, lying}
use Rattle.rule_scope.specs.Declaring.{last_from}
use Rattle.law_places.specs.Growth.{Grows, g_not, g_then, g_declared, g_put, g_amended}
use Rattle.law_places.specs.Growth.{g_completed, g_lying}
use Rattle.law_places.proofs.Following.{followed}
use Rattle.law_places.proofs.Meanings.{below}
use Rattle.law_places.proofs.Tables.{tested, two_numbers, inserted_apart}
use Rattle.law_runs.specs.InsideTargets.{IsPlaceOf, IsAroundOrNone}

not_below : (x y : ℕ) → nat_lt x y ≡ false → y ≤ x
not_below x y h = grind (arith, nat_tests)

-- a place is before two others, between them, or not before the second
abbrev Lies : ℕ → ℕ → ℕ → Type 0
Lies i j q = ((q < i) ⊎ (j ≤ q)) ⊎ ((i ≤ q) × (q < j))

lies : (i j q : ℕ) → Lies i j q
lies i j q = tested (nat_lt q i) (λ t. inl (inl (below q i t)))
    (λ t. tested (nat_lt q j) (λ u. inr (not_below q i t, below q j u))
    (λ u. inl (inr (not_below q j u))))

-- EACH NAME OF AN OUTLINE

-- of each name that stands in an outline, and of each that is new in another
abbrev pub EachName : Outline → (ℕ → Standing → Type 0) → Type 0
EachName o P = (r : ℕ) (name : List ℕ) (s : Standing) → standing o r name ≡ Some s → P r s

abbrev pub EachNew : Outline → Outline → (ℕ → Standing → Type 0) → Type 0
EachNew o p P = (r : ℕ) (name : List ℕ) (s : Standing) → standing o r name ≡ None
    → standing p r name ≡ Some s → P r s

-- what stands in an outline stands in another
abbrev pub Stays : Outline → Outline → Type 0
Stays o p = (r : ℕ) (name : List ℕ) (s : Standing) → standing o r name ≡ Some s
    → standing p r name ≡ Some s

pub old_or_new : (o p : Outline) (P : ℕ → Standing → Type 0) → Stays o p → EachName o P
    → EachNew o p P → EachName p P
old_or_new o p P stays old new r name s h = by (standing o r name) refl
  where
    by : (x : Option Standing) → standing o r name ≡ x → P r s
    by None e = new r name s e h
    by (Some t) e = let same : t ≡ s = same_Some t s (sym (stays r name t e) ∙ h) in
        subst (λ v. P r v) same (old r name t e)

-- what is new in two steps is new in one of them
pub new_in_two : (o x p : Outline) (P : ℕ → Standing → Type 0) → Stays x p → EachNew o x P
    → EachNew x p P → EachNew o p P
new_in_two o x p P stays first second r name s e h =
    by (standing x r name) refl
  where
    by : (y : Option Standing) → standing x r name ≡ y → P r s
    by None k = second r name s k h
    by (Some t) k = let same : t ≡ s = same_Some t s (sym (stays r name t k) ∙ h) in
        subst (λ v. P r v) same (first r name t e k)

-- STEPS

-- What an outline has that grew from another between two places.
pub record Step (i j : ℕ) (o p : Outline) : Type 0 where
  pub stays : Stays o p
  pub news : EachNew o p (λ r s. (i ≤ s.place) × (s.place < j) × (s.place ≤ s.last))
  pub extents : (q : ℕ) → q < i → extent_at p.extents q ≡ extent_at o.extents q
  pub members : (q : ℕ) → (q < i) ⊎ (j ≤ q) → member_at p q ≡ member_at o q
  pub reached : (c : ℕ) → j ≤ c → last_from o.extents 0 ≤ c → last_from p.extents 0 ≤ c

-- where the last extent begins
pub last_is : (es : List Extent) (e : Extent) (from : ℕ) → last_from (es ++ e ∷ []) from ≡ e.from
last_is [] e from = refl
last_is (x ∷ es) e from = last_is es e x.from

put_members : (t : Option Standing) (o : Outline) (region : ℕ) (u : Used) (m : Member) (i j q : ℕ)
    → i ≤ u.place → u.place < j → (q < i) ⊎ (j ≤ q)
    → member_at (put_by t region u m o) q ≡ member_at o q
put_members (Some s) o region u m i j q l n h = refl
put_members None o region u m i j q l n (inl h) =
    inserted_apart u.place m q o.members (two_numbers q u.place (λ e. omega arith))
put_members None o region u m i j q l n (inr h) =
    inserted_apart u.place m q o.members (two_numbers q u.place (λ e. omega arith))

pub declared_members : (t : Option Standing) (o : Outline) (w : Within) (u : Used) (last : ℕ)
    (e : Entry) (q : ℕ) → member_at (declared_by t w u last e o) q ≡ member_at o q
declared_members (Some s) o w u last e q = refl
declared_members None o w u last e q = refl

amended_members : (x : Option Entry) (o : Outline) (f : Entry → Entry) (place q : ℕ)
    → member_at (amended_by x f place o) q ≡ member_at o q
amended_members None o f place q = refl
amended_members (Some e) o f place q = refl

pub declared_extents : (t : Option Standing) (o : Outline) (w : Within) (u : Used) (last : ℕ)
    (e : Entry) → (declared_by t w u last e o).extents ≡ o.extents
declared_extents (Some s) o w u last e = refl
declared_extents None o w u last e = refl

put_extents : (t : Option Standing) (o : Outline) (region : ℕ) (u : Used) (m : Member)
    → (put_by t region u m o).extents ≡ o.extents
put_extents (Some s) o region u m = refl
put_extents None o region u m = refl

amended_extents : (x : Option Entry) (o : Outline) (f : Entry → Entry) (place : ℕ)
    → (amended_by x f place o).extents ≡ o.extents
amended_extents None o f place = refl
amended_extents (Some e) o f place = refl

module _ (R : ℕ → Type 0) (unfinished : Bool) (i j : ℕ) where
  members_apart : {o p : Outline} → Grows R unfinished i j o p → (q : ℕ) → (q < i) ⊎ (j ≤ q)
      → member_at p q ≡ member_at o q
  members_apart g_not q h = refl
  members_apart (g_then g k) q h = members_apart k q h ∙ members_apart g q h
  members_apart (g_declared {o} w own u last e l m n) q h =
      declared_members (taken o w (spelled u)) o w u last e q
  members_apart (g_put {o} region out u m l n) q h =
      put_members (standing o region (spelled u)) o region u m i j q l n h
  members_apart (g_amended {o} f place l k) q h =
      amended_members (entry_at o place) o f place q
  members_apart (g_completed {o} f place l k s) q h =
      amended_members (entry_at o place) o f place q
  members_apart (g_lying w place l m) q h = refl

  reached_by : {o p : Outline} → Grows R unfinished i j o p → (c : ℕ) → j ≤ c
      → last_from o.extents 0 ≤ c → last_from p.extents 0 ≤ c
  reached_by g_not c few h = h
  reached_by (g_then g k) c few h = reached_by k c few (reached_by g c few h)
  reached_by (g_declared {o} w own u last e l m n) c few h =
      subst (λ es. last_from es 0 ≤ c)
      (sym (declared_extents (taken o w (spelled u)) o w u last e)) h
  reached_by (g_put {o} region out u m l n) c few h = subst (λ es. last_from es 0 ≤ c)
      (sym (put_extents (standing o region (spelled u)) o region u m)) h
  reached_by (g_amended {o} f place l k) c few h = subst (λ es. last_from es 0 ≤ c)
      (sym (amended_extents (entry_at o place) o f place)) h
  reached_by (g_completed {o} f place l k s) c few h = subst (λ es. last_from es 0 ≤ c)
      (sym (amended_extents (entry_at o place) o f place)) h
  reached_by (g_lying {o} w place l m) c few h =
      let e : Extent = record {
        from = max (last_from o.extents 0) place;
        own = w.own;
        around = w.around;
      } in
      let k = last_is o.extents e 0 in
      let n : max (last_from o.extents 0) place ≤ c = omega arith in
      subst (λ z. z ≤ c) (sym k) n

  pub step_of : {o p : Outline} → Grows R unfinished i j o p → Step i j o p
  step_of g = let f = followed R unfinished i j g in record {
    stays = λ r name s h. f.stands r name s h;
    news = λ r name s e h. f.news r name s e h;
    extents = λ q l. f.extents q l;
    members = λ q h. members_apart g q h;
    reached = λ c few h. reached_by g c few h;
  }

pub step_self : (i j : ℕ) (o : Outline) → Step i j o o
step_self i j o = record {
  stays = λ r name s h. h;
  news = λ r name s e h. absurd (none-some s (sym e ∙ h));
  extents = λ q l. refl;
  members = λ q h. refl;
  reached = λ c few h. h;
}

pub step_then : (i k j : ℕ) (o x p : Outline) → i ≤ k → k ≤ j → Step i k o x → Step k j x p
    → Step i j o p
step_then i k j o x p l m f g = record {
  stays = λ r name s h. g.stays r name s (f.stays r name s h);
  news = new_in_two o x p (λ r s. (i ≤ s.place) × (s.place < j) × (s.place ≤ s.last)) g.stays
      (λ r name s e h. let n = f.news r name s e h in
      let a : s.place < j = omega arith in (n.0, a, n.2))
      (λ r name s e h. let n = g.news r name s e h in
      let a : i ≤ s.place = omega arith in (a, n.1, n.2));
  extents = λ q n. g.extents q (omega arith) ∙ f.extents q n;
  members = λ q h. by q h;
  reached = λ c n h. g.reached c n (f.reached c (omega arith) h);
}
  where
    by : (q : ℕ) → (q < i) ⊎ (j ≤ q) → member_at p q ≡ member_at o q
    by q (inl n) = g.members q (inl (omega arith)) ∙ f.members q (inl n)
    by q (inr n) = g.members q (inr n) ∙ f.members q (inr (omega arith))

-- what grows from a place on, to the end
pub record Onward (j : ℕ) (o p : Outline) : Type 0 where
  pub stays : Stays o p
  pub news : EachNew o p (λ r s. (j ≤ s.place) × (s.place ≤ s.last))
  pub extents : (q : ℕ) → q < j → extent_at p.extents q ≡ extent_at o.extents q

pub onward_self : (j : ℕ) (o : Outline) → Onward j o o
onward_self j o = record {
  stays = λ r name s h. h;
  news = λ r name s e h. absurd (none-some s (sym e ∙ h));
  extents = λ q l. refl;
}

pub onward : (i j : ℕ) (o x p : Outline) → i ≤ j → Step i j o x → Onward j x p → Onward i o p
onward i j o x p l f g = record {
  stays = λ r name s h. g.stays r name s (f.stays r name s h);
  news = new_in_two o x p (λ r s. (i ≤ s.place) × (s.place ≤ s.last)) g.stays
      (λ r name s e h. let n = f.news r name s e h in (n.0, n.2))
      (λ r name s e h. let n = g.news r name s e h in
      let m : i ≤ s.place = omega arith in (m, n.1));
  extents = λ q m. g.extents q (omega arith) ∙ f.extents q m;
}

-- two outlines in which names stand alike, and the text lies alike
pub record Same (o p : Outline) : Type 0 where
  pub names : (r : ℕ) (name : List ℕ) → standing p r name ≡ standing o r name
  pub extents : p.extents ≡ o.extents
  pub members : (q : ℕ) → member_at p q ≡ member_at o q

pub same_self : (o : Outline) → Same o o
same_self o = record {
  names = λ r name. refl;
  extents = refl;
  members = λ q. refl;
}

same_changed : (x : Option Entry) (o : Outline) (f : Entry → Entry) (place : ℕ)
    → Same o (amended_by x f place o)
same_changed None o f place = same_self o
same_changed (Some e) o f place = record {
  names = λ r name. refl;
  extents = refl;
  members = λ q. refl;
}

pub same_amended : (o : Outline) (f : Entry → Entry) (place : ℕ) → Same o (amended f place o)
same_amended o f place = same_changed (entry_at o place) o f place

pub onward_same : (j : ℕ) (o x p : Outline) → Same o x → Onward j x p → Onward j o p
onward_same j o x p f g = record {
  stays = λ r name s h. g.stays r name s (f.names r name ∙ h);
  news = λ r name s e h. g.news r name s (f.names r name ∙ e) h;
  extents = λ q l. g.extents q l ∙ ap (λ es. extent_at es q) f.extents;
}

-- THE NAMES OF `ALL`S

module _ (X : ℕ → Type 0) where
  -- there are none between two places
  abbrev pub Free : ℕ → ℕ → Type 0
  Free i j = (p : ℕ) → i ≤ p → p < j → X p → ⊥

  -- what stands at the place of a region is the name of an `all`
  abbrev pub IsAlone : Outline → ℕ → Type 0
  IsAlone o r = EachName o (λ q t. t.place ≡ r → X r)

  -- no name of an `all` stands in a region
  abbrev pub IsClean : Outline → ℕ → Type 0
  IsClean o r = (name : List ℕ) (s : Standing) → standing o r name ≡ Some s → X s.place → ⊥

  -- those that are new stand in regions between two places
  pub record Homed (i j : ℕ) (o p : Outline) : Type 0 where
    pub homes : EachNew o p (λ r s. X s.place → (i ≤ r) × (r < j) × IsAlone p r)
    pub members : (q : ℕ) → X q → member_at o q ≡ None → member_at p q ≡ None

  -- Before a place of the text that lies in these regions, within `all`s with these names: the
  -- names of `all`s stand in regions before it, and those in the regions of the text are these.
  pub record Base (rs ws : List ℕ) (i : ℕ) (o : Outline) : Type 0 where
    pub names : EachName o (λ r s. s.place < i)
    pub homes : EachName o (λ r s. X s.place → (r < i) × IsAlone o r)
    pub known : EachName o (λ r s. IsPlaceOf rs r → IsAroundOrNone X ws s.place)
    pub regions : (r : ℕ) → IsPlaceOf rs r → r < i
    pub members : (q : ℕ) → X q → member_at o q ≡ None
    pub unused : (q : ℕ) → i ≤ q → member_at o q ≡ None

  pub homed_self : (i j : ℕ) (o : Outline) → Homed i j o o
  homed_self i j o = record {
    homes = λ r name s e h x. absurd (none-some s (sym e ∙ h));
    members = λ q x h. h;
  }

  pub homed_free : (i j : ℕ) (o p : Outline) → Free i j → Step i j o p → Homed i j o p
  homed_free i j o p free f = record {
    homes = λ r name s e h x. let n = f.news r name s e h in absurd (free s.place n.0 n.1 x);
    members = λ q x h. by q x h (lies i j q);
  }
    where
      by : (q : ℕ) → X q → member_at o q ≡ None → Lies i j q → member_at p q ≡ None
      by q x h (inl l) = f.members q l ∙ h
      by q x h (inr l) = absurd (free q l.0 l.1 x)

  -- a region before what grows stays alone
  alone_on : (i j r : ℕ) (o p : Outline) → r < i → Step i j o p → IsAlone o r → IsAlone p r
  alone_on i j r o p l f h = old_or_new o p (λ q t. t.place ≡ r → X r) f.stays h
      (λ q name t e k z. let n = f.news q name t e k in absurd (omega arith))

  pub homed_then : (i k j : ℕ) (o x p : Outline) → i ≤ k → k ≤ j → Homed i k o x → Step k j x p
      → Homed k j x p → Homed i j o p
  homed_then i k j o x p l m f step g = record {
    homes = new_in_two o x p (λ r s. X s.place → (i ≤ r) × (r < j) × IsAlone p r) step.stays
        (λ r name s e h z. let n = f.homes r name s e h z in
        let a : i ≤ r = n.0 in
        let b : r < k = n.1 in
        (a, omega arith, alone_on k j r x p b step n.2))
        (λ r name s e h z. let n = g.homes r name s e h z in
        let a : k ≤ r = n.0 in (omega arith, n.1, n.2));
    members = λ q z h. g.members q z (f.members q z h);
  }

  pub homed_wider : (i j a b : ℕ) (o p : Outline) → a ≤ i → j ≤ b → Homed i j o p → Homed a b o p
  homed_wider i j a b o p l m f = record {
    homes = λ r name s e h z. let n = f.homes r name s e h z in
        let c : i ≤ r = n.0 in
        let d : r < j = n.1 in (omega arith, omega arith, n.2);
    members = λ q z h. f.members q z h;
  }

  pub homed_same : (i j : ℕ) (o x p : Outline) → Same x p → Homed i j o x → Homed i j o p
  homed_same i j o x p same f = record {
    homes = λ r name s e h z. let n = f.homes r name s e (sym (same.names r name) ∙ h) z in
        (n.0, n.1, λ q m t k y. n.2 q m t (sym (same.names q m) ∙ k) y);
    members = λ q z h. same.members q ∙ f.members q z h;
  }

  -- what stands before a place, after a step
  pub base_after : (rs ws : List ℕ) (i j : ℕ) (o p : Outline) → i ≤ j → Base rs ws i o
      → Step i j o p → Homed i j o p → Base rs ws j p
  base_after rs ws i j o p l b f g = record {
    names = old_or_new o p (λ r s. s.place < j) f.stays
        (λ r name s h. let n = b.names r name s h in omega arith)
        (λ r name s e h. let n = f.news r name s e h in n.1);
    homes = old_or_new o p (λ r s. X s.place → (r < j) × IsAlone p r) f.stays
        (λ r name s h z. let n = b.homes r name s h z in
        let m : r < i = n.0 in (omega arith, alone_on i j r o p m f n.1))
        (λ r name s e h z. let n = g.homes r name s e h z in (n.1, n.2));
    known = old_or_new o p
        (λ r s. IsPlaceOf rs r → IsAroundOrNone X ws s.place) f.stays b.known
        (λ r name s e h y. inr (λ z. let n = g.homes r name s e h z in
        let m = b.regions r y in
        let c : i ≤ r = n.0 in absurd (omega arith)));
    regions = λ r y. let m = b.regions r y in omega arith;
    members = λ q z. g.members q z (b.members q z);
    unused = λ q n. f.members q (inr n) ∙ b.unused q (omega arith);
  }

  pub base_later : (rs ws : List ℕ) (i j : ℕ) (o : Outline) → i ≤ j → Base rs ws i o
      → Base rs ws j o
  base_later rs ws i j o l b =
      base_after rs ws i j o o l b (step_self i j o) (homed_self i j o)

  pub base_same : (rs ws : List ℕ) (i : ℕ) (o p : Outline) → Same o p → Base rs ws i o
      → Base rs ws i p
  base_same rs ws i o p same b = record {
    names = λ r name s h. b.names r name s (sym (same.names r name) ∙ h);
    homes = λ r name s h z. let n = b.homes r name s (sym (same.names r name) ∙ h) z in
        (n.0, λ q m t k y. n.1 q m t (sym (same.names q m) ∙ k) y);
    known = λ r name s h y. b.known r name s (sym (same.names r name) ∙ h) y;
    regions = b.regions;
    members = λ q z. same.members q ∙ b.members q z;
    unused = λ q n. same.members q ∙ b.unused q n;
  }

  pub base_lying : (rs ws : List ℕ) (i place : ℕ) (w : Within) (o : Outline) → Base rs ws i o
      → Base rs ws i (lying w place o)
  base_lying rs ws i place w o b = record {
    names = b.names;
    homes = b.homes;
    known = b.known;
    regions = b.regions;
    members = b.members;
    unused = b.unused;
  }

  -- one more region, in which no name of an `all` stands
  pub base_add : (rs ws : List ℕ) (r i : ℕ) (o : Outline) → r < i → IsClean o r → Base rs ws i o
      → Base (r ∷ rs) ws i o
  base_add rs ws r i o l clean b = record {
    names = b.names;
    homes = b.homes;
    known = λ q name s h y. one q name s h y;
    regions = λ q y. within q y;
    members = b.members;
    unused = b.unused;
  }
    where
      one : (q : ℕ) (name : List ℕ) (s : Standing) → standing o q name ≡ Some s
          → (r ≡ q) ⊎ IsPlaceOf rs q → IsAroundOrNone X ws s.place
      one q name s h (inl e) =
          inr (λ z. clean name s (ap (λ v. standing o v name) e ∙ h) z)
      one q name s h (inr y) = b.known q name s h y

      within : (q : ℕ) → (r ≡ q) ⊎ IsPlaceOf rs q → q < i
      within q (inl e) = omega arith
      within q (inr y) = b.regions q y

  -- a region that was not open before a place
  pub clean_fresh : (rs ws : List ℕ) (i j r : ℕ) (o p : Outline) → Base rs ws i o → Step i j o p
      → Free i j → i ≤ r → IsClean p r
  clean_fresh rs ws i j r o p b f free l name s h z =
      old_or_new o p (λ q t. q ≡ r → X t.place → ⊥) f.stays
      (λ q m t k e x. let n = b.homes q m t k x in
      let d : q < i = n.0 in absurd (omega arith))
      (λ q m t k e y x. let n = f.news q m t k e in free t.place n.0 n.1 x) r name s h refl z

  -- the region of a name that is none of an `all`
  pub clean_name : (rs ws : List ℕ) (i r q : ℕ) (name : List ℕ) (s : Standing) (o : Outline)
      → Base rs ws i o → standing o q name ≡ Some s → s.place ≡ r → (X r → ⊥) → IsClean o r
  clean_name rs ws i r q name s o b h e not m t k z =
      let n = b.homes r m t k z in not (n.1 q name s h e)

  -- a clean region stays so
  pub clean_free : (i j r : ℕ) (o p : Outline) → Step i j o p → Free i j → IsClean o r
      → IsClean p r
  clean_free i j r o p f free clean name s h z =
      old_or_new o p (λ q t. q ≡ r → X t.place → ⊥) f.stays
      (λ q m t k e x. clean m t (ap (λ v. standing o v m) (sym e) ∙ k) x)
      (λ q m t k e y x. let n = f.news q m t k e in free t.place n.0 n.1 x) r name s h refl z

  pub clean_after : (i j r : ℕ) (o p : Outline) → r < i → Step i j o p → Homed i j o p
      → IsClean o r → IsClean p r
  clean_after i j r o p l f g clean name s h z =
      old_or_new o p (λ q t. q ≡ r → X t.place → ⊥) f.stays
      (λ q m t k e x. clean m t (ap (λ v. standing o v m) (sym e) ∙ k) x)
      (λ q m t k e y x. let n = g.homes q m t k e x in
      let d : i ≤ q = n.0 in absurd (omega arith)) r name s h refl z

  pub clean_same : (r : ℕ) (o p : Outline) → Same o p → IsClean o r → IsClean p r
  clean_same r o p same clean name s h z = clean name s (sym (same.names r name) ∙ h) z

  -- PIECES OF TEXT

  -- what becomes of an outline by a piece of text, and what holds once the outline is whole
  abbrev pub Inside : Outline → ℕ → ℕ → Outline → Outline → Type 0 → Type 0
  Inside p i j o x T = Homed i j o x × (Onward j x p → T)

  -- the names of `all`s between two places are those of a piece of the text
  pub record Covers (i j : ℕ) (P : ℕ → Type 0) : Type 0 where
    pub down : (p : ℕ) → i ≤ p → p < j → X p → P p
    pub up : (p : ℕ) → P p → X p

  pub covers_in : (i j a b : ℕ) (P : ℕ → Type 0) → i ≤ a → b ≤ j → Covers i j P → Covers a b P
  covers_in i j a b P l m c = record {
    down = λ p x y z. c.down p (omega arith) (omega arith) z;
    up = c.up;
  }

  pub covers_left : (i k j : ℕ) (P Q : ℕ → Type 0) → k ≤ j → ((p : ℕ) → Q p → k ≤ p)
      → Covers i j (λ p. P p ⊎ Q p) → Covers i k P
  covers_left i k j P Q l after c = record {
    down = λ p x y z. one p y (c.down p x (omega arith) z);
    up = λ p h. c.up p (inl h);
  }
    where
      one : (p : ℕ) → p < k → P p ⊎ Q p → P p
      one p y (inl h) = h
      one p y (inr h) = let n = after p h in absurd (omega arith)

  pub covers_right : (i k j : ℕ) (P Q : ℕ → Type 0) → i ≤ k → ((p : ℕ) → P p → p < k)
      → Covers i j (λ p. P p ⊎ Q p) → Covers k j Q
  covers_right i k j P Q l before c = record {
    down = λ p x y z. one p x (c.down p (omega arith) y z);
    up = λ p h. c.up p (inr h);
  }
    where
      one : (p : ℕ) → k ≤ p → P p ⊎ Q p → Q p
      one p x (inl h) = let n = before p h in absurd (omega arith)
      one p x (inr h) = h

  -- where those of a piece stand from a place on, there is none before it
  pub free_before : (i k j : ℕ) (P : ℕ → Type 0) → k ≤ j → ((p : ℕ) → P p → k ≤ p)
      → Covers i j P → Free i k
  free_before i k j P l after c p x y z =
      let n = after p (c.down p x (omega arith) z) in absurd (omega arith)
