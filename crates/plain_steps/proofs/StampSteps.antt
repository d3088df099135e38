-- How the stamps of an instance are made, transition by transition.
use Rattle.std.proofs.Common.{◌≡◌, refl, sym, ap, subst, ◌∙◌, arith, ℕ, ◌<◌, ◌≤◌, nat_eq, nat_lt}
use Rattle.std.proofs.Common.{Bool, true, false, ◌&&◌, is_some, List, [], ◌∷◌, ◌++◌, Option, Some}
use Rattle.std.proofs.Common.{None}
use Rattle.std.specs.Prelude.{ℤ, option_and_then, if◌then◌else◌, find}
use Rattle.std.specs.Option.{option_map, option_map_or, option_or}
use Rattle.std.proofs.lemmas.Bool.{ltb-true, ltb-false, ne_eqb}
use Rattle.std.proofs.lemmas.List.{append-nil}
use Rattle.std.proofs.lemmas.List.Folds.{find-append}
use Rattle.est_meaning.specs.mean_blocks.declared.situation.Row.{Row}
use Rattle.est_meaning.specs.mean_blocks.TextByPlace.{Text}
use Rattle.est_meaning.specs.mean_blocks.GlobalSituation.{Map, Situation, Clocked, row_of}
use Rattle.est_meaning.proofs.of_mean_blocks.MutualPeers.{eq_self}
use Rattle.plain_frames.specs.plain_systems.declared.system.Stamp.{Stamp}
use Rattle.plain_frames.specs.plain_systems.HeldSystems.{is_stamp, stamped}
use Rattle.est_meaning.specs.declared.firing.Firing.{Firing}
use Rattle.est_meaning.specs.ClauseContexts.{FullTransition, transitions_of, from_of, when_of}
use Rattle.est_meaning.specs.ClauseContexts.{delay_of}
use Rattle.est_meaning.specs.TransitionChoices.{Choice, numbered, any_tuples, any_frame, choice_by}
use Rattle.est_meaning.specs.TransitionChoices.{choice_in}
use Rattle.est_meaning.specs.GuardParts.{fits_state, is_from, frames_of, seen_by}
use Rattle.est_meaning.specs.TransitionSelection.{holds, is_enabled_choice}
use Rattle.est_meaning.specs.DelayStamps.{first_choice, is_waiting, is_timed, since, stamp_after}
use Rattle.est_meaning.proofs.Options.{map_some}
use Rattle.plain_guards.specs.plain_transitions.declared.written.Written.{Written}
use Rattle.plain_guards.specs.plain_transitions.FittingTransitions.{IsFitting}
use Rattle.plain_guards.specs.plain_transitions.WrittenTransitions.{IsWritten}
use Rattle.plain_steps.specs.declared.living.Living.{Living}
use Rattle.plain_steps.specs.inside.StampLists.{living, IsLiving, clocked, stamp_list}
use Rattle.plain_steps.specs.inside.StampLists.{AreOfInstance}

-- LISTS OF STAMPS

abbrev time : Stamp → ℕ
time s = s.since

either_time : (a b : Option Stamp)
    → option_map time (option_or a b) ≡ option_or (option_map time a) (option_map time b)
either_time None b = refl
either_time (Some s) b = refl

stamped_append : (xs ys : List Stamp) (k : Clocked)
    → stamped (xs ++ ys) k ≡ option_or (stamped xs k) (stamped ys k)
stamped_append xs ys k = ap (option_map time) (find-append (is_stamp k) xs ys)
    ∙ either_time (find (is_stamp k) xs) (find (is_stamp k) ys)

-- the list of one stamp
listed_own : (k : Clocked) (o : Option ℕ) → stamped (stamp_list k o) k ≡ o
listed_own k None = refl
listed_own k (Some n) = λ i. option_map time (if (eq_self k.instance i && eq_self k.transition i)
    then Some (record { instance = k.instance; transition = k.transition; since = n }) else None)

listed_other : (j k : Clocked) (o : Option ℕ)
    → (nat_eq k.instance j.instance && nat_eq k.transition j.transition) ≡ false
    → stamped (stamp_list j o) k ≡ None
listed_other j k None h = refl
listed_other j k (Some n) h = ap (λ b. option_map time (if b
    then Some (record { instance = j.instance; transition = j.transition; since = n })
    else None)) h

or_none : {A : Type 0} (o : Option A) → option_or o None ≡ o
or_none None = refl
or_none (Some a) = refl

added_own : (xs : List Stamp) (k : Clocked) (o : Option ℕ) → stamped xs k ≡ None
    → stamped (xs ++ stamp_list k o) k ≡ o
added_own xs k o h = stamped_append xs (stamp_list k o) k
    ∙ ap (λ p. option_or p (stamped (stamp_list k o) k)) h ∙ listed_own k o

added_other : (xs : List Stamp) (j k : Clocked) (o : Option ℕ)
    → (nat_eq k.instance j.instance && nat_eq k.transition j.transition) ≡ false
    → stamped (xs ++ stamp_list j o) k ≡ stamped xs k
added_other xs j k o h = stamped_append xs (stamp_list j o) k
    ∙ ap (option_or (stamped xs k)) (listed_other j k o h) ∙ or_none (stamped xs k)

-- two transitions that differ
and_false : (b : Bool) → (b && false) ≡ false
and_false true = refl
and_false false = refl

apart_instance : (j k : Clocked) → (k.instance ≡ j.instance → ⊥)
    → (nat_eq k.instance j.instance && nat_eq k.transition j.transition) ≡ false
apart_instance j k h =
    ap (λ b. b && nat_eq k.transition j.transition) (ne_eqb k.instance j.instance h)

apart_transition : (j k : Clocked) → (k.transition ≡ j.transition → ⊥)
    → (nat_eq k.instance j.instance && nat_eq k.transition j.transition) ≡ false
apart_transition j k h = ap (λ b. nat_eq k.instance j.instance && b)
    (ne_eqb k.transition j.transition h) ∙ and_false (nat_eq k.instance j.instance)

-- TRANSITIONS THAT HAVE A STAMP

not_true : (b : Bool) → (b ≡ true → ⊥) → b ≡ false
not_true true h = absurd (h refl)
not_true false h = refl

-- a choice of which the `from` fails does not wait
not_waiting : (limit : ℕ) (t : Text) (s : Situation) (c : Choice) → is_from t c ≡ false
    → is_waiting limit t s c ≡ false
not_waiting limit t s c h = ap (λ b. is_some (delay_of c.transition) && option_map_or
    (holds limit c) (if b then option_map (seen_by t s c)
    (frames_of limit t s c (when_of c.transition)) else None) false) h
    ∙ and_false (is_some (delay_of c.transition))

-- of a transition of which the `from` fails, no choice waits
no_choice_waits : (limit : ℕ) (t : Text) (s : Situation) (r : Row) (m : ℕ) (x : FullTransition)
    (o : Option (List ℤ)) → fits_state t.outline (from_of x) r.state ≡ false
    → option_map_or (is_waiting limit t s) (option_map (λ zs. record {
      row = r;
      number = m;
      transition = x;
      chosen = any_frame t.outline x zs;
    }) o) false ≡ false
no_choice_waits limit t s r m x None h = refl
no_choice_waits limit t s r m x (Some zs) h = not_waiting limit t s (record {
  row = r;
  number = m;
  transition = x;
  chosen = any_frame t.outline x zs;
}) h

unfit_waits : (limit : ℕ) (t : Text) (s : Situation) (r : Row) (m : ℕ)
    (o : Option FullTransition)
    → ((x : FullTransition) → o ≡ Some x → fits_state t.outline (from_of x) r.state ≡ true → ⊥)
    → option_map_or (is_waiting limit t s) (option_and_then (choice_by t r m 1) o) false ≡ false
unfit_waits limit t s r m None h = refl
unfit_waits limit t s r m (Some x) h = no_choice_waits limit t s r m x
    (numbered (any_tuples t.outline x) 1)
    (not_true (fits_state t.outline (from_of x) r.state) (h x refl))

-- whether a transition of a living instance has a stamp
timed_at : (limit : ℕ) (t : Text) (s : Situation) (k : Clocked) (r : Row)
    → row_of s k.instance ≡ Some r → is_timed limit t s k
    ≡ option_map_or (is_waiting limit t s) (choice_in t (first_choice k) r) false
timed_at limit t s k r h = ap (λ o. option_map_or (is_waiting limit t s)
    (option_and_then (choice_in t (first_choice k)) o) false) h

pub untimed : (limit : ℕ) (t : Text) (fired : Option Firing) (s : Situation) (k : Clocked)
    → is_timed limit t s k ≡ false → stamp_after limit t fired s k ≡ None
untimed limit t fired s k h = ap (λ b. if b then Some (since fired s k) else None) h

-- the row of an instance that lives and looks so
row_living : (s : Situation) (l : Living) → IsLiving s l
    → (r : Row) × (row_of s l.number ≡ Some r) × (living r ≡ l)
row_living s l h = map_some living (row_of s l.number) l h

-- a transition of a living instance that does not fit its state has no stamp
unfit : (limit : ℕ) (t : Text) (fired : Option Firing) (s : Situation) (l : Living) (k : Clocked)
    → IsLiving s l → k.instance ≡ l.number → (IsFitting t l.body l.state k.transition → ⊥)
    → stamp_after limit t fired s k ≡ None
unfit limit t fired s l k h e g =
    let a = row_living s l h in
    let r = a.0 in
    let f : IsFitting t r.body r.state k.transition → ⊥ =
    subst (λ (x : Living). IsFitting t x.body x.state k.transition → ⊥) (sym a.2) g in
    untimed limit t fired s k
    (timed_at limit t s k r (ap (row_of s) e ∙ a.1)
    ∙ unfit_waits limit t s r k.transition (numbered (transitions_of t r.body) k.transition)
    (λ x i j. f (record { transition = x; is = i; fits = j })))

-- a transition without a delay has no stamp
abbrev first_of : Text → Row → ℕ → FullTransition → List ℤ → Choice
first_of t r m x zs =
    record { row = r; number = m; transition = x; chosen = any_frame t.outline x zs }

first_waits : (limit : ℕ) (t : Text) (s : Situation) (r : Row) (m : ℕ) (x : FullTransition)
    (o : Option (List ℤ)) → delay_of x ≡ None
    → option_map_or (is_waiting limit t s) (option_map (first_of t r m x) o) false ≡ false
first_waits limit t s r m x None h = refl
first_waits limit t s r m x (Some zs) h =
    ap (λ d. is_some d && is_enabled_choice limit t s (first_of t r m x zs)) h

no_delay_waits : (limit : ℕ) (t : Text) (s : Situation) (r : Row) (m : ℕ)
    (o : Option FullTransition) → ((x : FullTransition) → o ≡ Some x → delay_of x ≡ None)
    → option_map_or (is_waiting limit t s) (option_and_then (choice_by t r m 1) o) false ≡ false
no_delay_waits limit t s r m None h = refl
no_delay_waits limit t s r m (Some x) h =
    first_waits limit t s r m x (numbered (any_tuples t.outline x) 1) (h x refl)

-- an instance of whose body no transition has a delay has no stamps
pub untimed_instance : (limit : ℕ) (t : Text) (fired : Option Firing) (s : Situation) (l : Living)
    (old : Map Clocked ℕ) → IsLiving s l → ((k : Clocked) → k.instance ≡ l.number → old k ≡ None)
    → ((j : ℕ) (x : FullTransition) → numbered (transitions_of t l.body) j ≡ Some x
    → delay_of x ≡ None) → AreOfInstance l.number (stamp_after limit t fired s) old old
untimed_instance limit t fired s l old h none g =
    let a = row_living s l h in
    let r = a.0 in
    record {
      own = λ k e. none k e ∙ sym (untimed limit t fired s k
          (timed_at limit t s k r (ap (row_of s) e ∙ a.1)
          ∙ no_delay_waits limit t s r k.transition
          (numbered (transitions_of t r.body) k.transition)
          (λ x i. g k.transition x
          (ap (λ (y : Living). numbered (transitions_of t y.body) k.transition) (sym a.2) ∙ i))));
      others = λ k e. refl;
    }

-- ONE TRANSITION

-- whether a transition has a stamp, by what is said of its first choice
timed_by : (limit : ℕ) (t : Text) (s : Situation) (l : Living) (m : ℕ) (x : FullTransition)
    (b : Bool) → IsLiving s l → numbered (transitions_of t l.body) m ≡ Some x
    → ((r : Row) → r.number ≡ l.number → r.state ≡ l.state
    → b ≡ option_map_or (is_waiting limit t s) (choice_by t r m 1 x) false)
    → b ≡ is_timed limit t s (clocked l.number m)
timed_by limit t s l m x b h e g =
    let a = row_living s l h in
    let r = a.0 in
    g r (ap (λ (y : Living). y.number) a.2) (ap (λ (y : Living). y.state) a.2)
    ∙ sym (timed_at limit t s (clocked l.number m) r a.1
    ∙ ap (λ o. option_map_or (is_waiting limit t s) (option_and_then (choice_by t r m 1) o) false)
    (ap (λ (y : Living). numbered (transitions_of t y.body) m) a.2 ∙ e))

-- the same where the text and what is written are given by equals
pub timed_in : (limit : ℕ) (t u : Text) (s : Situation) (l : Living) (m : ℕ) (x : FullTransition)
    (w : Written) (b : Bool) → u ≡ t → IsLiving s l → numbered (transitions_of t l.body) m ≡ Some x
    → IsWritten t.outline x w
    → ((r : Row) (y : FullTransition) → r.number ≡ l.number → r.state ≡ l.state
    → IsWritten u.outline y w
    → b ≡ option_map_or (is_waiting limit u s) (choice_by u r m 1 y) false)
    → b ≡ is_timed limit t s (clocked l.number m)
timed_in limit t u s l m x w b same h e written g =
    let go : (r : Row) (y : FullTransition) → r.number ≡ l.number → r.state ≡ l.state
    → IsWritten t.outline y w
    → b ≡ option_map_or (is_waiting limit t s) (choice_by t r m 1 y) false =
    subst (λ (v : Text). (r : Row) (y : FullTransition) → r.number ≡ l.number → r.state ≡ l.state
    → IsWritten v.outline y w
    → b ≡ option_map_or (is_waiting limit v s) (choice_by v r m 1 y) false) same g in
    timed_by limit t s l m x b h e (λ r n q. go r x n q written)

-- a transition that has one
pub one_with : (limit : ℕ) (t : Text) (fired : Option Firing) (s u : Situation) (l : Living)
    (m n : ℕ) (xs ys : List Stamp) → is_timed limit t s (clocked l.number m) ≡ true → u ≡ s
    → n ≡ since fired u (clocked l.number m)
    → ys ≡ xs ++ record { instance = l.number; transition = m; since = n } ∷ []
    → ys ≡ xs ++ stamp_list (clocked l.number m)
    (stamp_after limit t fired s (clocked l.number m))
one_with limit t fired s u l m n xs ys h e f g = let k = clocked l.number m in
    g ∙ ap (λ i. xs ++ record { instance = l.number; transition = m; since = i } ∷ [])
    (f ∙ ap (λ v. since fired v k) e)
    ∙ sym (ap (λ b. xs ++ stamp_list k (if b then Some (since fired s k) else None)) h)

-- a transition that has none
pub one_without : (limit : ℕ) (t : Text) (fired : Option Firing) (s : Situation) (l : Living)
    (m : ℕ) (xs : List Stamp) → is_timed limit t s (clocked l.number m) ≡ false
    → xs ≡ xs ++ stamp_list (clocked l.number m)
    (stamp_after limit t fired s (clocked l.number m))
one_without limit t fired s l m xs h = let k = clocked l.number m in
    sym (ap (λ o. xs ++ stamp_list k o) (untimed limit t fired s k h) ∙ append-nil xs)

-- THE TRANSITIONS OF AN INSTANCE

-- the transitions of an instance up to a number have their stamps, and those of others stay
pub record AreUpTo (n last : ℕ) (after old new : Map Clocked ℕ) : Type 0 where
  pub own : (k : Clocked) → k.instance ≡ n → k.transition ≤ last → new k ≡ after k
  pub later : (k : Clocked) → k.instance ≡ n → last < k.transition → new k ≡ None
  pub others : (k : Clocked) → (k.instance ≡ n → ⊥) → new k ≡ old k

-- whether one number is below another
by_order : {A : Type 0} (m n : ℕ) → (m < n → A) → (n ≤ m → A) → A
by_order {A = A} m n f g = one (nat_lt m n) refl
  where
    one : (b : Bool) → nat_lt m n ≡ b → A
    one true e = f (ltb-true m n e)
    one false e = g (ltb-false m n e)

same_clocked : (k : Clocked) (n m : ℕ) → k.instance ≡ n → k.transition ≡ m → k ≡ clocked n m
same_clocked k n m e f = λ i. clocked (e i) (f i)

-- after the next one that fits
module _ (limit : ℕ) (t : Text) (fired : Option Firing) (s : Situation) (l : Living)
    (last m : ℕ) (old : Map Clocked ℕ) (xs : List Stamp) (h : IsLiving s l)
    (g : AreUpTo l.number last (stamp_after limit t fired s) old (stamped xs)) (below : last < m)
    (between : (j : ℕ) → last < j → j < m → IsFitting t l.body l.state j → ⊥) where
  abbrev more : List Stamp
  more = xs ++ stamp_list (clocked l.number m) (stamp_after limit t fired s (clocked l.number m))

  own_before : (k : Clocked) → (k.transition ≡ m → ⊥) → stamped more k ≡ stamped xs k
  own_before k e = added_other xs (clocked l.number m) k
      (stamp_after limit t fired s (clocked l.number m))
      (apart_transition (clocked l.number m) k e)

  own_at : (k : Clocked) → k.instance ≡ l.number → k.transition ≡ m
      → stamped more k ≡ stamp_after limit t fired s k
  own_at k e f = let j = clocked l.number m in
      subst (λ i. stamped more i ≡ stamp_after limit t fired s i)
      (sym (same_clocked k l.number m e f))
      (added_own xs j (stamp_after limit t fired s j) (g.later j refl below))

  own_next : (k : Clocked) → k.instance ≡ l.number → k.transition ≤ m
      → stamped more k ≡ stamp_after limit t fired s k
  own_next k e f = by_order last k.transition
      (λ a. by_order k.transition m
      (λ b. own_before k (λ i. omega (arith, b, i)) ∙ g.later k e a
      ∙ sym (unfit limit t fired s l k h e (between k.transition a b)))
      (λ b. own_at k e (omega (arith, b, f))))
      (λ a. own_before k (λ i. omega (arith, a, below, i)) ∙ g.own k e a)

  pub up_to_next : (ys : List Stamp) → ys ≡ more
      → AreUpTo l.number m (stamp_after limit t fired s) old (stamped ys)
  up_to_next ys e = subst
      (λ zs. AreUpTo l.number m (stamp_after limit t fired s) old (stamped zs)) (sym e) (record {
        own = own_next;
        later = λ k f a. own_before k (λ i. omega (arith, a, i))
            ∙ g.later k f (omega (arith, a, below));
        others = λ k f. added_other xs (clocked l.number m) k
            (stamp_after limit t fired s (clocked l.number m))
            (apart_instance (clocked l.number m) k f) ∙ g.others k f;
      })

pub up_to_last : (limit : ℕ) (t : Text) (fired : Option Firing) (s : Situation) (l : Living)
    (last : ℕ) (old new : Map Clocked ℕ) → IsLiving s l
    → AreUpTo l.number last (stamp_after limit t fired s) old new
    → ((j : ℕ) → last < j → IsFitting t l.body l.state j → ⊥)
    → AreOfInstance l.number (stamp_after limit t fired s) old new
up_to_last limit t fired s l last old new h g none = record {
  own = λ k e. by_order last k.transition
      (λ a. g.later k e a ∙ sym (unfit limit t fired s l k h e (none k.transition a)))
      (λ a. g.own k e a);
  others = g.others;
}
