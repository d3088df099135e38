-- Transitions by the states that they fit.
use Rattle.std.proofs.Common.{◌≡◌, refl, sym, ap, subst, ◌∙◌, arith, add-one, ℕ, zero, suc, ◌+◌}
use Rattle.std.proofs.Common.{◌<◌, ◌≤◌, Bool, true, false, List, [], length, get_or}
use Rattle.std.proofs.Common.{Option, Some, None}
use Rattle.std.proofs.lemmas.Option.{slice_get-get_or, slice_get_within}
use Rattle.std.specs.List.{flat_map}
use Rattle.std.specs.Option.{option_map, option_map_or}
use Rattle.est_syntax.specs.declared.name.Used.{Used}
use Rattle.est_meaning.specs.rule_scope.Outline.{Outline}
use Rattle.est_meaning.specs.GuardParts.{states_named, fits_state}
use Rattle.est_meaning.specs.TransitionChoices.{numbered}
use Rattle.plain_transitions.specs.declared.fitting.Fitting.{Fitting}
use Rattle.plain_transitions.specs.declared.written.Written.{Written}
use Rattle.plain_transitions.specs.inside.KeyedNumbers.{AreNumbers, listed}
use Rattle.plain_transitions.specs.inside.StateNumbers.{names_in, fits_each, names_state, fits_by}
use Rattle.plain_transitions.specs.inside.StateNumbers.{passes, IsPut, AreByStates}
use Rattle.plain_transitions.proofs.NumberLaws.{number_next, numbers_named}

pub numbered_at : {A : Type 0} (xs : List A) (i : ℕ) (x : A) → i < length xs → x ≡ get_or xs i x
    → numbered xs (i + 1) ≡ Some x
numbered_at xs i x h is =
    ap (numbered xs) (add-one i) ∙ slice_get-get_or xs i x h ∙ ap Some (sym is)

pub numbered_within : {A : Type 0} (xs : List A) (n : ℕ) (x : A) → numbered xs n ≡ Some x
    → n ≤ length xs
numbered_within xs zero x h = absurd (cc)
numbered_within xs (suc n) x h = let l = slice_get_within xs n x h in omega (arith, l)

none_first : (test : ℕ → Bool) → ((n : ℕ) → test n ≡ true → (n ≡ 0 → ⊥)) → AreNumbers test 0 []
none_first test h = record {
  ascend = λ i j l k. absurd (omega (arith, k));
  few = λ i k. absurd (omega (arith, k));
  pass = λ i k. absurd (omega (arith, k));
  all = λ n l t. absurd (h n t (omega (arith, l)));
}

not_zero : (test : Option (List ℕ) → Bool) (ws : List Written) (n : ℕ)
    → passes test ws n ≡ true → (n ≡ 0 → ⊥)
not_zero test ws zero h e = absurd (cc)
not_zero test ws (suc n) h e = omega (arith, e)

pub none_by_states : (ws : List Written) (f : Fitting) → f.each ≡ [] → f.named ≡ []
    → AreByStates ws 0 f
none_by_states ws f h k = record {
  each = subst (AreNumbers (passes fits_each ws) 0) (sym h)
      (none_first (passes fits_each ws) (not_zero fits_each ws));
  named = λ state. subst (AreNumbers (passes (names_state state) ws) 0)
      (sym (ap (λ es. listed es state) k))
      (none_first (passes (names_state state) ws) (not_zero (names_state state) ws));
}

pub by_states_next : (ws : List Written) (i : ℕ) (w : Written) (old new : Fitting)
    → i < length ws → w ≡ get_or ws i w → AreByStates ws i old → IsPut (i + 1) w.states old new
    → AreByStates ws (i + 1) new
by_states_next ws i w old new within is h p =
    let at : numbered ws (i + 1) ≡ Some w = numbered_at ws i w within is in record {
      each = subst (AreNumbers (passes fits_each ws) (i + 1)) (sym p.each)
          (number_next (passes fits_each ws) i old.each (fits_each w.states) h.each
          (ap (λ o. option_map_or (λ (x : Written). fits_each x.states) o false) at));
      named = λ state. subst (AreNumbers (passes (names_state state) ws) (i + 1))
          (sym (p.named state)) (numbers_named (passes (names_state state) ws) i state
          (names_in w.states) (listed old.named state) (h.named state)
          (ap (λ o. option_map_or (λ (x : Written). names_state state x.states) o false) at));
    }

pub fits_same : (o : Outline) (us : Option (List Used)) (state : Option ℕ)
    → fits_state o us state ≡ fits_by state (option_map (λ vs. flat_map (states_named o) vs) us)
fits_same o None None = refl
fits_same o None (Some s) = refl
fits_same o (Some us) None = refl
fits_same o (Some us) (Some s) = refl

pub passed_within : (test : Option (List ℕ) → Bool) (ws : List Written) (n : ℕ)
    → passes test ws n ≡ true → n ≤ length ws
passed_within test ws n h = by (numbered ws n) refl h
  where
    by : (o : Option Written) → numbered ws n ≡ o
        → option_map_or (λ (w : Written). test w.states) o false ≡ true → n ≤ length ws
    by None e k = absurd (cc)
    by (Some w) e k = numbered_within ws n w e
