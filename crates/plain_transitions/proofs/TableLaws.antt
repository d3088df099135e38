-- Transitions in the table of a body, and tables of bodies.
use Rattle.std.proofs.Common.{◌≡◌, refl, sym, ap, subst, ◌∙◌, arith, ℕ, zero, suc, ◌+◌, ◌-◌, ◌<◌}
use Rattle.std.proofs.Common.{◌^◌, Bool, true, false, cond, ◌||◌, nat_eq, List, [], ◌∷◌, ◌++◌, length}
use Rattle.std.proofs.Common.{get_or, take, Option, Some, None, is_some, slice_get}
use Rattle.std.proofs.lemmas.Bool.Decides.{Decides-eqb}
use Rattle.std.proofs.lemmas.List.{take_more, map-append}
use Rattle.std.proofs.lemmas.List.Folds.{find-append}
use Rattle.std.proofs.lemmas.Option.{same_Some}
use Rattle.std.specs.Borrow.{Bor}
use Rattle.std.specs.List.{AllZip, flat_map, list_any}
use Rattle.std.specs.Map.{lookup}
use Rattle.std.specs.Option.{option_copied, option_map, option_map_or, option_or}
use Rattle.est_syntax.specs.declared.body.Body.{Body, out-Body}
use Rattle.est_syntax.specs.declared.transition.Group.{Group}
use Rattle.est_meaning.specs.rule_scope.Outline.{Outline}
use Rattle.est_meaning.specs.mean_blocks.TextByPlace.{Text, body_at}
use Rattle.est_meaning.specs.ClauseContexts.{FullTransition, transitions_of, from_of}
use Rattle.est_meaning.specs.ClauseContexts.{group_transitions, delay_of}
use Rattle.est_meaning.specs.GuardParts.{fits_state}
use Rattle.est_meaning.specs.TransitionChoices.{numbered}
use Rattle.plain_transitions.specs.declared.fitting.Fitting.{Fitting}
use Rattle.plain_transitions.specs.declared.written.Written.{Written}
use Rattle.plain_transitions.specs.WrittenTransitions.{IsWritten, bounds_of}
use Rattle.plain_transitions.specs.FittingTransitions.{AtState, IsTransition, IsFitting}
use Rattle.plain_transitions.specs.FittingTransitions.{IsNextFitting, are_timed, AreUntimed}
use Rattle.plain_transitions.specs.inside.BodyTables.{Sited, IsTable, fits_at, first_at, site}
use Rattle.plain_transitions.specs.inside.BodyTables.{AreFitting, naming}
use Rattle.plain_transitions.specs.inside.BodyTables.{AreTabled, bodies_held}
use Rattle.plain_transitions.specs.inside.KeyedNumbers.{Ascend, IsLeastAbove, IsNext}
use Rattle.plain_transitions.specs.inside.KeyedNumbers.{listed}
use Rattle.plain_transitions.specs.inside.KeyedNumbers.{smaller}
use Rattle.plain_transitions.specs.inside.StateNumbers.{AreByStates}
use Rattle.plain_transitions.specs.inside.StateNumbers.{passes, fits_by, fits_each, names_state}
use Rattle.plain_transitions.specs.inside.AddedTransitions.{AreAdded}
use Rattle.plain_transitions.proofs.NumberLaws.{next_number, next_either}
use Rattle.plain_transitions.proofs.StateLaws.{fits_same, passed_within}

-- A TRANSITION BY ITS NUMBER

zip_same : {A B C : Type 0} (R : A → B → Type 0) (f : A → C) (g : B → C) (d : C)
    → ((x : A) (y : B) → R x y → f x ≡ g y) → (xs : List A) (ys : List B) → AllZip R xs ys
    → (n : ℕ) → option_map_or f (slice_get xs n) d ≡ option_map_or g (slice_get ys n) d
zip_same R f g d h [] [] z n = refl
zip_same R f g d h [] (y ∷ ys) z n = absurd z
zip_same R f g d h (x ∷ xs) [] z n = absurd z
zip_same R f g d h (x ∷ xs) (y ∷ ys) z zero = h x y z.0
zip_same R f g d h (x ∷ xs) (y ∷ ys) z (suc n) = zip_same R f g d h xs ys z.1 n

zip_none : {A B : Type 0} (R : A → B → Type 0) (xs : List A) (ys : List B) → AllZip R xs ys
    → (n : ℕ) → slice_get ys n ≡ None → slice_get xs n ≡ None
zip_none R [] [] z n h = refl
zip_none R [] (y ∷ ys) z n h = absurd z
zip_none R (x ∷ xs) [] z n h = absurd z
zip_none R (x ∷ xs) (y ∷ ys) z zero h = absurd (cc)
zip_none R (x ∷ xs) (y ∷ ys) z (suc n) h = zip_none R xs ys z.1 n h

zip_some : {A B : Type 0} (R : A → B → Type 0) (xs : List A) (ys : List B) → AllZip R xs ys
    → (n : ℕ) (y : B) → slice_get ys n ≡ Some y → (x : A) × (slice_get xs n ≡ Some x) × R x y
zip_some R [] [] z n y h = absurd (cc)
zip_some R [] (v ∷ ys) z n y h = absurd z
zip_some R (x ∷ xs) [] z n y h = absurd z
zip_some R (x ∷ xs) (v ∷ ys) z zero y h = (x, refl, subst (R x) (same_Some v y h) z.0)
zip_some R (x ∷ xs) (v ∷ ys) z (suc n) y h = zip_some R xs ys z.1 n y h

module _ (t : Text) (body : ℕ) (ws : List Written)
    (w : AllZip (IsWritten t.outline) (transitions_of t body) ws) where
  held_next : (m : ℕ) (r : Option (Bor Written)) → option_copied r ≡ slice_get ws m
      → IsTransition t body (suc m) r
  held_next m None h = zip_none (IsWritten t.outline) (transitions_of t body) ws w m (sym h)
  held_next m (Some x) h =
      zip_some (IsWritten t.outline) (transitions_of t body) ws w m x.now (sym h)

  pub held_at : (n : ℕ) (r : Option (Bor Written)) → (n ≡ 0 → ⊥)
      → option_copied r ≡ slice_get ws (n - 1) → IsTransition t body n r
  held_at zero r l h = absurd (l refl)
  held_at (suc m) r l h =
      let e : suc m - 1 ≡ m = omega arith in held_next m r (h ∙ ap (slice_get ws) e)

nothing_ascends : Ascend []
nothing_ascends = record { ascend = λ i j l k. absurd (omega (arith, k)) }

none_above : (after : ℕ) (r : Option ℕ) → IsLeastAbove [] after r → r ≡ None
none_above after None h = refl
none_above after (Some n) h = let k = h.1.1 in absurd (omega (arith, k))

smaller_none : (q : Option ℕ) → smaller q None ≡ q
smaller_none None = refl
smaller_none (Some n) = refl

module _ (s : Sited) (ws : List Written) (f : Fitting) (b : Bool) (t : IsTable s ws f b) where
  abbrev all_of : List FullTransition
  all_of = transitions_of s.text s.place

  -- the next one that fits
  pub ascend_each : Ascend f.each
  ascend_each = record { ascend = t.fitting.each.ascend }

  pub ascend_named : (state : ℕ) → Ascend (listed f.named state)
  ascend_named state = record { ascend = (t.fitting.named state).ascend }

  same_fits : (state : Option ℕ) (n : ℕ) → fits_at s state n ≡ passes (fits_by state) ws n
  same_fits state zero = refl
  same_fits state (suc n) =
      zip_same (IsWritten s.text.outline)
      (λ (x : FullTransition). fits_state s.text.outline (from_of x) state)
      (λ (w : Written). fits_by state w.states) false
      (λ x w is. fits_same s.text.outline (from_of x) state ∙ ap (fits_by state) (sym is.states))
      all_of ws t.written n

  fitting : (state : Option ℕ) (n : ℕ) → fits_at s state n ≡ true
      → IsFitting s.text s.place state n
  fitting state n e = by (numbered all_of n) refl e
    where
      by : (o : Option FullTransition) → numbered all_of n ≡ o → option_map_or
          (λ (x : FullTransition). fits_state s.text.outline (from_of x) state) o false ≡ true
          → IsFitting s.text s.place state n
      by None is k = absurd (cc)
      by (Some x) is k = record { transition = x; is = is; fits = k }

  fits : (state : Option ℕ) (n : ℕ) → IsFitting s.text s.place state n → fits_at s state n ≡ true
  fits state n g = ap (λ o. option_map_or
      (λ (x : FullTransition). fits_state s.text.outline (from_of x) state) o false) g.is ∙ g.fits

  is_next : (state : Option ℕ) (after : ℕ) (r : Option ℕ) → IsNext (fits_at s state) after r
      → IsNextFitting s.text s.place state after r
  is_next state after None k = λ m l g. k m l (fits state m g)
  is_next state after (Some n) k =
      (k.0, fitting state n k.1, λ m l b g. k.2 m l b (fits state m g))

  next_of : (state : Option ℕ) (after : ℕ) (r : Option ℕ)
      → IsNext (passes (fits_by state) ws) after r → IsNextFitting s.text s.place state after r
  next_of state after r h = is_next state after r
      (subst (λ (p : ℕ → Bool). IsNext p after r) (λ i n. sym (same_fits state n) i) h)

  either_passes : (state n : ℕ)
      → (passes fits_each ws n || passes (names_state state) ws n)
      ≡ passes (fits_by (Some state)) ws n
  either_passes state n = by (numbered ws n)
    where
      by : (o : Option Written)
          → (option_map_or (λ (w : Written). fits_each w.states) o false
          || option_map_or (λ (w : Written). names_state state w.states) o false)
          ≡ option_map_or (λ (w : Written). fits_by (Some state) w.states) o false
      by None = refl
      by (Some w) = refl

  either_next : (state after : ℕ) (q r : Option ℕ) → IsLeastAbove f.each after q
      → IsLeastAbove (listed f.named state) after r
      → IsNext (passes (fits_by (Some state)) ws) after (smaller q r)
  either_next state after q r h k =
      subst (λ (p : ℕ → Bool). IsNext p after (smaller q r)) (λ i n. either_passes state n i)
      (next_either (passes fits_each ws) (passes (names_state state) ws) after q r
      (next_number (passes fits_each ws) (length ws) after f.each q t.fitting.each
      (passed_within fits_each ws) h)
      (next_number (passes (names_state state) ws) (length ws) after (listed f.named state) r
      (t.fitting.named state) (passed_within (names_state state) ws) k))

  next_by : (state : Option ℕ) (after : ℕ) (q r : Option ℕ) → IsLeastAbove f.each after q
      → IsLeastAbove (naming f state) after r
      → IsNextFitting s.text s.place state after (smaller q r)
  next_by None after q r h k =
      subst (IsNextFitting s.text s.place None after)
      (sym (smaller_none q) ∙ ap (smaller q) (sym (none_above after r k)))
      (next_of None after q (next_number (passes fits_each ws) (length ws) after f.each q
      t.fitting.each (passed_within fits_each ws) h))
  next_by (Some n) after q r h k =
      next_of (Some n) after (smaller q r) (either_next n after q r h k)

  named_ascend : (state : Option ℕ) → Ascend (naming f state)
  named_ascend None = nothing_ascends
  named_ascend (Some n) = ascend_named n

  -- those that fit a state
  pub at_state : (state : Option ℕ) → AreFitting
      (record { text = s.text; body = s.place; state = state }) ws f.each (naming f state) b
  at_state state = record {
    written = t.written;
    ascend_each = ascend_each;
    ascend_named = named_ascend state;
    next = next_by state;
    delays = t.delays;
  }

-- DELAYS

any_same : {A B : Type 0} (R : A → B → Type 0) (f : A → Bool) (g : B → Bool)
    → ((x : A) (y : B) → R x y → f x ≡ g y) → (xs : List A) (ys : List B) → AllZip R xs ys
    → list_any f xs ≡ list_any g ys
any_same R f g h [] [] z = refl
any_same R f g h [] (y ∷ ys) z = absurd z
any_same R f g h (x ∷ xs) [] z = absurd z
any_same R f g h (x ∷ xs) (y ∷ ys) z = λ i. h x y z.0 i || any_same R f g h xs ys z.1 i

there_mapped : {A B : Type 0} (f : A → B) (o : Option A)
    → is_some (option_map f o) ≡ is_some o
there_mapped f None = refl
there_mapped f (Some x) = refl

none_mapped : {A B : Type 0} (f : A → B) (o : Option A) → option_map f o ≡ None → o ≡ None
none_mapped f None h = refl
none_mapped f (Some x) h = absurd (cc)

none_there : {A : Type 0} (o : Option A) → is_some o ≡ false → o ≡ None
none_there None h = refl
none_there (Some x) h = absurd (cc)

-- whether one that is written has a delay
timed_as_written : (t : Text) (body : ℕ) (ws : List Written)
    → AllZip (IsWritten t.outline) (transitions_of t body) ws
    → list_any (λ (w : Written). is_some w.delay) ws ≡ are_timed (transitions_of t body)
timed_as_written t body ws h = sym (any_same (IsWritten t.outline)
    (λ (x : FullTransition). is_some (delay_of x)) (λ (w : Written). is_some w.delay)
    (λ x w is. ap is_some (sym is.delay) ∙ there_mapped bounds_of w.delay)
    (transitions_of t body) ws h)

-- a table of a text
pub made_table : (t u : Text) (place : ℕ) (ws vs us : List Written) (f : Fitting) (b : Bool)
    → u ≡ t → AllZip (IsWritten t.outline) (transitions_of t place) ws → length ws < 2 ^ 32
    → vs ≡ ws → AreByStates vs (length vs) f → us ≡ ws
    → b ≡ list_any (λ (w : Written). is_some w.delay) us
    → IsTable (record { text = u; place = place }) ws f b
made_table t u place ws vs us f b same written few is by all timed =
    subst (λ (x : Text). IsTable (record { text = x; place = place }) ws f b) (sym same) (record {
      written = written;
      few = few;
      fitting = subst (λ l. AreByStates l (length l) f) is by;
      delays = timed ∙ ap (list_any (λ (w : Written). is_some w.delay)) all
          ∙ timed_as_written t place ws written;
    })

neither : (a b : Bool) → (a || b) ≡ false → (a ≡ false) × (b ≡ false)
neither true b h = absurd (cc)
neither false b h = (refl, h)

untimed_at : (xs : List FullTransition) (n : ℕ) (x : FullTransition) → are_timed xs ≡ false
    → slice_get xs n ≡ Some x → delay_of x ≡ None
untimed_at [] n x h there = absurd (cc)
untimed_at (y ∷ xs) zero x h there =
    let first = neither (is_some (delay_of y)) (are_timed xs) h in
    none_there (delay_of x)
    (ap (λ z. is_some (delay_of z)) (sym (same_Some y x there)) ∙ first.0)
untimed_at (y ∷ xs) (suc n) x h there =
    untimed_at xs n x (neither (is_some (delay_of y)) (are_timed xs) h).1 there

untimed_by : (xs : List FullTransition) (n : ℕ) (x : FullTransition) → are_timed xs ≡ false
    → numbered xs n ≡ Some x → delay_of x ≡ None
untimed_by xs zero x h there = absurd (cc)
untimed_by xs (suc n) x h there = untimed_at xs n x h there

-- where none has a delay
pub untimed_body : (t : Text) (body : ℕ) → are_timed (transitions_of t body) ≡ false
    → AreUntimed t body
untimed_body t body h = record {
  full = λ n x there. untimed_by (transitions_of t body) n x h there;
  held = λ n w is. none_mapped bounds_of w.now.delay
      (is.2.delay ∙ untimed_by (transitions_of t body) n is.0 h is.1);
}

-- TRANSITIONS THAT ARE WRITTEN

pub written_all : (o : Outline) (gs groups : List Group) (old new : List Written) → old ≡ []
    → gs ≡ groups → AreAdded o (flat_map group_transitions gs) old new
    → AllZip (IsWritten o) (flat_map group_transitions groups) new
written_all o gs groups old new none same h =
    subst (λ l. AllZip (IsWritten o) (flat_map group_transitions l) new) same
    (h.are [] (subst (λ l. AllZip (IsWritten o) [] l) (sym none) tt))

pub none_written : (t : Text) (place : ℕ) (ws : List Written) → None ≡ body_at t place
    → ws ≡ [] → AllZip (IsWritten t.outline) (transitions_of t place) ws
none_written t place ws none e =
    subst (λ (b : Option Body). AllZip (IsWritten t.outline) (option_map_or
    (λ (x : Body). flat_map group_transitions (out-Body x).groups) b []) ws) none
    (subst (λ l. AllZip (IsWritten t.outline) [] l) (sym e) tt)

pub some_written : (t : Text) (place : ℕ) (o : Outline) (b : Body) (ws : List Written)
    → o ≡ t.outline → Some b ≡ body_at t place
    → AllZip (IsWritten o) (flat_map group_transitions (out-Body b).groups) ws
    → AllZip (IsWritten t.outline) (transitions_of t place) ws
some_written t place o b ws same there h =
    subst (λ (x : Option Body). AllZip (IsWritten t.outline) (option_map_or
    (λ (y : Body). flat_map group_transitions (out-Body y).groups) x []) ws) there
    (subst (λ p. AllZip (IsWritten p) (flat_map group_transitions (out-Body b).groups) ws) same h)

-- TABLES OF BODIES

or_none : {T : Type 0} (o : Option T) → option_or o None ≡ o
or_none None = refl
or_none (Some x) = refl

or_assoc : {T : Type 0} (o p q : Option T)
    → option_or (option_or o p) q ≡ option_or o (option_or p q)
or_assoc None p q = refl
or_assoc (Some x) p q = refl

site_or : (t : Text) (place : ℕ) (o p : Option Body)
    → site t place (option_or o p) ≡ option_or (site t place o) (site t place p)
site_or t place None p = refl
site_or t place (Some x) p = refl

pub copied_none : {T : Type 0} (r : Option (Bor T)) → is_some r ≡ false → option_copied r ≡ None
copied_none None h = refl
copied_none (Some x) h = absurd (cc)

module _ (t : Text) where
  abbrev sited : ℕ → Sited
  sited place = record { text = t; place = place }

  kept_same : (es : List (ℕ × Sited)) (b : Body) (place : ℕ) (y : Sited) (c : Bool)
      → lookup (nat_eq (out-Body b).name.place) es ≡ Some y
      → nat_eq place (out-Body b).name.place ≡ c
      → lookup (nat_eq place) es
      ≡ option_or (lookup (nat_eq place) es) (site t place (cond c (Some b) None))
  kept_same es b place y false h e = sym (or_none (lookup (nat_eq place) es))
  kept_same es b place y true h e =
      let here : lookup (nat_eq place) es ≡ Some y =
      ap (λ p. lookup (nat_eq p) es) ((Decides-eqb place (out-Body b).name.place).0 e) ∙ h
      in here ∙ ap (λ x. option_or x (Some (sited place))) (sym here)

  pub table_kept : (es : List (ℕ × Sited)) (b : Body) (r : Option (Bor Sited))
      → option_copied r ≡ lookup (nat_eq (out-Body b).name.place) es → is_some r ≡ true
      → AreTabled t (b ∷ []) es es
  table_kept es b None h there = absurd (cc)
  table_kept es b (Some y) h there = λ place.
      kept_same es b place y.now (nat_eq place (out-Body b).name.place) (sym h) refl

  new_site : (b : Body) (place : ℕ) (c : Bool) → nat_eq place (out-Body b).name.place ≡ c
      → cond c (Some (sited (out-Body b).name.place)) None ≡ site t place (cond c (Some b) None)
  new_site b place false e = refl
  new_site b place true e =
      ap (λ p. Some (sited p)) (sym ((Decides-eqb place (out-Body b).name.place).0 e))

  found_last : (es : List (ℕ × Sited)) (b : Body) (place : ℕ) → lookup (nat_eq place)
      (es ++ ((out-Body b).name.place, sited (out-Body b).name.place) ∷ [])
      ≡ option_or (lookup (nat_eq place) es) (site t place (first_at (b ∷ []) place))
  found_last [] b place = new_site b place (nat_eq place (out-Body b).name.place) refl
  found_last (e ∷ es) b place =
      elim (nat_eq place e.0) as (λ c. cond c (Some e.1) (lookup (nat_eq place)
      (es ++ ((out-Body b).name.place, sited (out-Body b).name.place) ∷ []))
      ≡ option_or (cond c (Some e.1) (lookup (nat_eq place) es))
      (site t place (first_at (b ∷ []) place))) [ true ↦ refl | false ↦ found_last es b place ]

  pub table_put : (es after : List (ℕ × Sited)) (b : Body)
      → after ≡ es ++ ((out-Body b).name.place, sited (out-Body b).name.place) ∷ []
      → AreTabled t (b ∷ []) es after
  table_put es after b h = λ place. ap (lookup (nat_eq place)) h ∙ found_last es b place

  pub tabled_none : (es : List (ℕ × Sited)) → AreTabled t [] es es
  tabled_none es = λ place. sym (or_none (lookup (nat_eq place) es))

  tabled_both : (xs ys : List Body) (a b c : List (ℕ × Sited)) → AreTabled t xs a b
      → AreTabled t ys b c → AreTabled t (xs ++ ys) a c
  tabled_both xs ys a b c h k = λ place.
      let x : Option Sited = site t place (first_at xs place) in
      let y : Option Sited = site t place (first_at ys place) in
      k place ∙ ap (λ q. option_or q y) (h place) ∙ or_assoc (lookup (nat_eq place) a) x y
      ∙ ap (option_or (lookup (nat_eq place) a))
      (sym (site_or t place (first_at xs place) (first_at ys place))
      ∙ ap (site t place) (sym
      (find-append (λ (z : Body). nat_eq place (out-Body z).name.place) xs ys)))

  pub tabled_more : (bs : List (Bor Body)) (i : ℕ) (b : Bor Body) (x y z : List (ℕ × Sited))
      → i < length bs → b ≡ get_or bs i b → AreTabled t (bodies_held (take i bs)) x y
      → AreTabled t (b.now ∷ []) y z → AreTabled t (bodies_held (take (i + 1) bs)) x z
  tabled_more bs i b x y z within is h k =
      let last : bodies_held (take (i + 1) bs) ≡ bodies_held (take i bs) ++ b.now ∷ [] =
      ap bodies_held (take_more bs i b within ∙ ap (λ v. take i bs ++ v ∷ []) (sym is))
      ∙ map-append (λ (v : Bor Body). v.now) (take i bs) (b ∷ []) in
      subst (λ l. AreTabled t l x z) (sym last)
      (tabled_both (bodies_held (take i bs)) (b.now ∷ []) x y z h k)

-- TEXTS

abbrev body_list : Option Body → List FullTransition
body_list o = option_map_or
    (λ (b : Body). flat_map group_transitions (out-Body b).groups) o []

same_site : (t : Text) (place : ℕ) (s : Sited) (o : Option Body) → Some s ≡ site t place o
    → s ≡ record { text = t; place = place }
same_site t place s None h = absurd (cc)
same_site t place s (Some b) h = same_Some s (record { text = t; place = place }) h

no_site : (t : Text) (place : ℕ) (o : Option Body) → None ≡ site t place o → body_list o ≡ []
no_site t place None h = refl
no_site t place (Some b) h = absurd (cc)

none_numbered : {A : Type 0} (n : ℕ) → numbered {A = A} [] n ≡ None
none_numbered zero = refl
none_numbered (suc n) = refl

pub no_transition : (t : Text) (place n : ℕ) → None ≡ site t place (body_at t place)
    → IsTransition t place n None
no_transition t place n h =
    ap (λ l. numbered l n) (no_site t place (body_at t place) h) ∙ none_numbered n

pub no_transitions : (t : Text) (place : ℕ) → None ≡ site t place (body_at t place)
    → transitions_of t place ≡ []
no_transitions t place h = no_site t place (body_at t place) h

none_fits : (t : Text) (body : ℕ) (state : Option ℕ) (after : ℕ) (q r : Option ℕ)
    → transitions_of t body ≡ [] → IsLeastAbove [] after q → IsLeastAbove [] after r
    → IsNextFitting t body state after (smaller q r)
none_fits t body state after q r none h k =
    subst (IsNextFitting t body state after)
    (λ i. smaller (sym (none_above after q h) i) (sym (none_above after r k) i))
    (λ m l f.
    let no : numbered (transitions_of t body) m ≡ None =
    ap (λ l. numbered l m) none ∙ none_numbered m in
    let some : numbered (transitions_of t body) m ≡ Some f.transition = f.is in absurd (cc))

-- a body that is not there has none
pub no_fits : (t : Text) (body : ℕ) (state : Option ℕ) → transitions_of t body ≡ []
    → AreFitting (record { text = t; body = body; state = state }) [] [] [] false
no_fits t body state none = record {
  written = subst (λ l. AllZip (IsWritten t.outline) l []) (sym none) tt;
  ascend_each = nothing_ascends;
  ascend_named = nothing_ascends;
  next = λ after q r. none_fits t body state after q r none;
  delays = sym (ap are_timed none);
}

module _ (t : Text) (place : ℕ) (s : Sited) (h : Some s ≡ site t place (body_at t place)) where
  pub is_transition : (n : ℕ) (r : Option (Bor Written)) → IsTransition s.text s.place n r
      → IsTransition t place n r
  is_transition n r k = subst (λ (x : Sited). IsTransition x.text x.place n r)
      (same_site t place s (body_at t place) h) k

  pub at_place : (state : Option ℕ)
      → ◌≡◌ {A = AtState} (record { text = s.text; body = s.place; state = state })
      (record { text = t; body = place; state = state })
  at_place state = ap (λ (x : Sited). record { text = x.text; body = x.place; state = state })
      (same_site t place s (body_at t place) h)
