-- How stamps are made, instance by instance.
use Rattle.std.proofs.Common.{◌≡◌, refl, sym, ap, subst, ◌∙◌, arith, ℕ, zero, suc, ◌+◌, ◌≤◌}
use Rattle.std.proofs.Common.{nat_eq, Bool, true, false, is_some, List, [], ◌∷◌, ◌++◌, length, take}
use Rattle.std.proofs.Common.{Option, Some, None, slice_get, Result, Ok, Err}
use Rattle.std.specs.Result.{OnOk}
use Rattle.std.specs.Prelude.{option_and_then, if◌then◌else◌, find}
use Rattle.std.specs.Option.{option_map, option_map_or, option_or}
use Rattle.std.proofs.lemmas.Bool.{eqb-true, ne_eqb}
use Rattle.std.proofs.lemmas.List.Folds.{find-append}
use Rattle.std.proofs.lemmas.Option.{none-some, same_Some}
use Rattle.est_meaning.specs.mean_blocks.declared.situation.Row.{Row}
use Rattle.est_meaning.specs.mean_blocks.TextByPlace.{Text}
use Rattle.est_meaning.specs.mean_blocks.GlobalSituation.{Map, Situation, Clocked, is_numbered}
use Rattle.est_meaning.specs.mean_blocks.GlobalSituation.{row_of}
use Rattle.est_meaning.specs.mean_blocks.KeepingLaws.{AscendBelow, AreNumbered}
use Rattle.est_meaning.proofs.of_mean_blocks.MutualPeers.{eq_self}
use Rattle.est_meaning.specs.declared.firing.Firing.{Firing}
use Rattle.est_meaning.specs.TransitionChoices.{choice_in}
use Rattle.est_meaning.specs.DelayStamps.{first_choice, is_waiting, stamp_after}
use Rattle.est_meaning.proofs.Options.{map_some}
use Rattle.plain_steps.specs.declared.living.Living.{Living}
use Rattle.plain_steps.specs.inside.StampLists.{living, IsLiving, AreOfInstance, stamps_until}
use Rattle.plain_steps.proofs.StampSteps.{untimed}

-- what is so of a value is so
pub on_ok_map : {T E P Q : Type 0} (r : Result T E) → (P → Q) → OnOk r P → OnOk r Q
on_ok_map (Ok x) f h = f h
on_ok_map (Err e) f h = tt

-- ROWS IN ASCENDING NUMBER

-- none has a number below the least
least_of : (least next : ℕ) (rs : List Row) (i : ℕ) (r : Row) → AscendBelow least next rs
    → slice_get rs i ≡ Some r → least ≤ r.number
least_of least next [] i r h e = absurd (none-some r e)
least_of least next (q ∷ rs) zero r h e =
    subst (λ (x : Row). least ≤ x.number) (same_Some q r e) h.0
least_of least next (q ∷ rs) (suc i) r h e =
    let a = least_of (q.number + 1) next rs i r h.2 e in
    let b = h.0 in
    omega (arith, a, b)

-- a row is the one that its number finds
pub row_there : (least next : ℕ) (rs : List Row) (i : ℕ) (r : Row) → AscendBelow least next rs
    → slice_get rs i ≡ Some r → find (is_numbered r.number) rs ≡ Some r
row_there least next [] i r h e = absurd (none-some r e)
row_there least next (q ∷ rs) zero r h e = subst
    (λ (x : Row). find (is_numbered x.number) (q ∷ rs) ≡ Some x) (same_Some q r e)
    (ap (λ b. if b then Some q else find (is_numbered q.number) rs) (eq_self q.number))
row_there least next (q ∷ rs) (suc i) r h e =
    let a = least_of (q.number + 1) next rs i r h.2 e in
    ap (λ b. if b then Some q else find (is_numbered r.number) rs)
    (ne_eqb r.number q.number (λ f. omega (arith, a, f)))
    ∙ row_there (q.number + 1) next rs i r h.2 e

-- none before it has its number
pub none_before : (least next : ℕ) (rs : List Row) (i : ℕ) (r : Row) → AscendBelow least next rs
    → slice_get rs i ≡ Some r → find (is_numbered r.number) (take i rs) ≡ None
none_before least next [] i r h e = absurd (none-some r e)
none_before least next (q ∷ rs) zero r h e = refl
none_before least next (q ∷ rs) (suc i) r h e =
    let a = least_of (q.number + 1) next rs i r h.2 e in
    ap (λ b. if b then Some q else find (is_numbered r.number) (take i rs))
    (ne_eqb r.number q.number (λ f. omega (arith, a, f)))
    ∙ none_before (q.number + 1) next rs i r h.2 e

-- so many rows, and one more
take_more_row : (rs : List Row) (i : ℕ) (r : Row) → slice_get rs i ≡ Some r
    → take (i + 1) rs ≡ take i rs ++ r ∷ []
take_more_row [] i r e = absurd (none-some r e)
take_more_row (q ∷ rs) zero r e = ap (λ x. x ∷ []) (same_Some q r e)
take_more_row (q ∷ rs) (suc i) r e =
    let n : suc i + 1 ≡ suc (i + 1) = omega arith in
    ap (λ j. take j (q ∷ rs)) n ∙ ap (λ xs. q ∷ xs) (take_more_row rs i r e)

-- past the last one
take_past : (rs : List Row) (i : ℕ) → length rs ≤ i → take i rs ≡ rs
take_past [] zero h = refl
take_past [] (suc i) h = refl
take_past (q ∷ rs) zero h = absurd (omega (arith, h))
take_past (q ∷ rs) (suc i) h = ap (λ xs. q ∷ xs) (take_past rs i (omega (arith, h)))

no_row : (rs : List Row) (i : ℕ) → slice_get rs i ≡ None → length rs ≤ i
no_row [] i e = omega arith
no_row (q ∷ rs) zero e = absurd (none-some q (sym e))
no_row (q ∷ rs) (suc i) e = let a = no_row rs i e in omega (arith, a)

same_number : (m n : ℕ) → m ≡ n → nat_eq m n ≡ true
same_number m n e = subst (λ i. nat_eq m i ≡ true) e (eq_self m)

true_false : (b : Bool) → b ≡ true → b ≡ false → ⊥
true_false true h g = cc
true_false false h g = cc

-- THE STAMPS OF THE FIRST INSTANCES

module _ (limit : ℕ) (t : Text) (fired : Option Firing) (s : Situation) where
  -- whether one of the first instances has a number
  abbrev among : ℕ → ℕ → Bool
  among i n = is_some (find (is_numbered n) (take i s.rows))

  -- the instance of a row lives
  pub row_lives : (i : ℕ) (l : Living) → AreNumbered s
      → option_map living (slice_get s.rows i) ≡ Some l → IsLiving s l
  row_lives i l h e =
      let a = map_some living (slice_get s.rows i) l e in
      let r = a.0 in
      subst (IsLiving s) a.2
      (ap (option_map living) (row_there 1 s.next s.rows i r h.1 a.1))

  -- it has no stamps yet
  pub row_without : (i : ℕ) (l : Living) (old : Map Clocked ℕ) → AreNumbered s
      → option_map living (slice_get s.rows i) ≡ Some l
      → ((k : Clocked) → old k ≡ stamps_until limit t fired s i k)
      → (k : Clocked) → k.instance ≡ l.number → old k ≡ None
  row_without i l old h e g k f =
      let a = map_some living (slice_get s.rows i) l e in
      let r = a.0 in
      let n : k.instance ≡ r.number = f ∙ sym (ap (λ (y : Living). y.number) a.2) in
      g k ∙ ap (λ o. if is_some o then stamp_after limit t fired s k else None)
      (ap (λ m. find (is_numbered m) (take i s.rows)) n
      ∙ none_before 1 s.next s.rows i r h.1 a.1)

  either_some : (a : Option Row) (r : Row) → is_some (option_or a (Some r)) ≡ true
  either_some None r = refl
  either_some (Some q) r = refl

  either_none : (a : Option Row) → is_some (option_or a None) ≡ is_some a
  either_none None = refl
  either_none (Some q) = refl

  among_more : (i n : ℕ) (r : Row) → slice_get s.rows i ≡ Some r → among (i + 1) n
      ≡ is_some (option_or (find (is_numbered n) (take i s.rows))
      (if nat_eq n r.number then Some r else None))
  among_more i n r e = ap (λ xs. is_some (find (is_numbered n) xs)) (take_more_row s.rows i r e)
      ∙ ap is_some (find-append (is_numbered n) (take i s.rows) (r ∷ []))

  -- after the stamps of one instance more
  pub until_next : (i : ℕ) (l : Living) (old new : Map Clocked ℕ)
      → option_map living (slice_get s.rows i) ≡ Some l
      → ((k : Clocked) → old k ≡ stamps_until limit t fired s i k)
      → AreOfInstance l.number (stamp_after limit t fired s) old new
      → (k : Clocked) → new k ≡ stamps_until limit t fired s (i + 1) k
  until_next i l old new e g own k =
      let a = map_some living (slice_get s.rows i) l e in
      let r = a.0 in
      let n : r.number ≡ l.number = ap (λ (y : Living). y.number) a.2 in
      one r n (among_more i k.instance r a.1) (nat_eq k.instance r.number) refl
    where
      one : (r : Row) → r.number ≡ l.number → among (i + 1) k.instance
          ≡ is_some (option_or (find (is_numbered k.instance) (take i s.rows))
          (if nat_eq k.instance r.number then Some r else None))
          → (b : Bool) → nat_eq k.instance r.number ≡ b
          → new k ≡ stamps_until limit t fired s (i + 1) k
      one r n m true f = own.own k (eqb-true k.instance r.number f ∙ n)
          ∙ sym (ap (λ b. if b then stamp_after limit t fired s k else None)
          (m ∙ ap (λ b. is_some (option_or (find (is_numbered k.instance) (take i s.rows))
          (if b then Some r else None))) f
          ∙ either_some (find (is_numbered k.instance) (take i s.rows)) r))
      one r n m false f = own.others k
          (λ j. true_false (nat_eq k.instance r.number) (same_number k.instance r.number
          (j ∙ sym n)) f)
          ∙ g k ∙ sym (ap (λ b. if b then stamp_after limit t fired s k else None)
          (m ∙ ap (λ b. is_some (option_or (find (is_numbered k.instance) (take i s.rows))
          (if b then Some r else None))) f
          ∙ either_none (find (is_numbered k.instance) (take i s.rows))))

  not_living : (o : Option Row) → None ≡ option_map living o → o ≡ None
  not_living None e = refl
  not_living (Some r) e = absurd (none-some (living r) e)

  -- where no row stands, all are among them
  pub until_past : (i : ℕ) (old : Map Clocked ℕ) → None ≡ option_map living (slice_get s.rows i)
      → ((k : Clocked) → old k ≡ stamps_until limit t fired s i k)
      → (k : Clocked) → old k ≡ stamps_until limit t fired s (i + 1) k
  until_past i old e g k =
      let a = no_row s.rows i (not_living (slice_get s.rows i) e) in
      g k ∙ ap (λ rs. if is_some (find (is_numbered k.instance) rs)
      then stamp_after limit t fired s k else None)
      (take_past s.rows i a ∙ sym (take_past s.rows (i + 1) (omega (arith, a))))

  -- an instance that does not live has no stamps
  no_instance : (k : Clocked) (o : Option Row) → row_of s k.instance ≡ o
      → (if is_some o then stamp_after limit t fired s k else None)
      ≡ stamp_after limit t fired s k
  no_instance k (Some r) e = refl
  no_instance k None e = sym (untimed limit t fired s k
      (ap (λ o. option_map_or (is_waiting limit t s)
      (option_and_then (choice_in t (first_choice k)) o) false) e))

  pub until_all : (i : ℕ) (old : Map Clocked ℕ) → length s.rows ≤ i
      → ((k : Clocked) → old k ≡ stamps_until limit t fired s i k)
      → (k : Clocked) → old k ≡ stamp_after limit t fired s k
  until_all i old h g k = g k ∙ ap (λ rs. if is_some (find (is_numbered k.instance) rs)
      then stamp_after limit t fired s k else None) (take_past s.rows i h)
      ∙ no_instance k (row_of s k.instance) refl

  -- the same where another situation equals it
  pub until_same : (u : Situation) (i : ℕ) (old : Map Clocked ℕ) → u ≡ s
      → ((k : Clocked) → old k ≡ stamps_until limit t fired s i k)
      → (k : Clocked) → old k ≡ stamps_until limit t fired u i k
  until_same u i old e g k = g k ∙ ap (λ v. stamps_until limit t fired v i k) (sym e)

  pub same_until : (u : Situation) (i : ℕ) (old : Map Clocked ℕ) → u ≡ s
      → ((k : Clocked) → old k ≡ stamps_until limit t fired u i k)
      → (k : Clocked) → old k ≡ stamps_until limit t fired s i k
  same_until u i old e g k = g k ∙ ap (λ v. stamps_until limit t fired v i k) e
