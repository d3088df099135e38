-- What is kept of what was found are the possible firings, and what was found tells what is due.
use Rattle.std.proofs.Common.{◌≡◌, ◌<◌, ◌↔◌, refl, sym, subst, inl, inr, ℕ, Bool, true, false, not}
use Rattle.std.proofs.Common.{IsTrue, List, [], ◌∷◌, length, nat_eq, eq-eqb, arith}
use Rattle.std.proofs.lemmas.Bool.{cases_lt, eqb-true}
use Rattle.est_syntax.specs.Least.{IsIn}
use Rattle.est_meaning.specs.mean_blocks.TextByPlace.{Text}
use Rattle.est_meaning.specs.mean_blocks.GlobalSituation.{Situation}
use Rattle.est_meaning.specs.declared.firing.Firing.{Firing}
use Rattle.est_meaning.specs.TransitionChoices.{is_choice}
use Rattle.est_meaning.specs.TransitionSelection.{passes_limit, IsSettled, is_offered, is_due}
use Rattle.est_meaning.specs.TransitionSelection.{is_offered_choice, IsAncestor, IsPossible}
use Rattle.est_meaning.specs.TransitionSelection.{MayFire}
use Rattle.est_meaning.specs.declared.answers.Offers.TheVariants.{Settled}
use Rattle.est_meaning.specs.PossibleFirings.{OffersAre}
use Rattle.est_meaning.specs.QuietSituations.{HasDue}
use Rattle.plain_choices.specs.declared.found.Found.{Found}
use Rattle.plain_choices.specs.inside.SystemOffers.{IsAllFound, IsKept}
use Rattle.plain_choices.proofs.Findings.{due_offered}
use Rattle.plain_choices.proofs.Rows.{lifeless}
use Rattle.plain_choices.proofs.Surveys.{not_both}

-- a list with a member is not empty
filled : (n many : ℕ) (ns : List ℕ) → many ≡ length ns → IsIn n ns → nat_eq many 0 ≡ false
filled n many [] e a = absurd a
filled n many (m ∷ ns) e a = by (nat_eq many 0) refl
  where
    by : (b : Bool) → nat_eq many 0 ≡ b → nat_eq many 0 ≡ false
    by false f = f
    by true f = (let none : many ≡ 0 = eqb-true many 0 f in absurd (omega arith))

module _ (limit : ℕ) (t : Text) (s : Situation) (x : Found)
    (v : IsAllFound limit t s x Settled) where
  pub is_settled : IsSettled limit t s
  unfolding IsSettled
  is_settled f h = elim (cases_lt f.instance v.0) [
    | inl a ↦ not_both (is_choice (passes_limit limit t s) t s f) h (v.1.settled f a)
    | inr a ↦ not_both (is_choice (passes_limit limit t s) t s f) h
        (lifeless (passes_limit limit t s) t s f (v.2 f.instance a))
  ]

  offered_within : (f : Firing) → is_offered limit t s f ≡ true → f.instance < v.0
  offered_within f h = elim (cases_lt f.instance v.0) [
    | inl a ↦ a
    | inr a ↦ absurd (not_both (is_offered limit t s f) h
        (lifeless (is_offered_choice limit t s) t s f (v.2 f.instance a)))
  ]

  due_in : (g : Firing) → is_due limit t s g ≡ true → IsIn g.instance x.dues.items
  due_in g due = v.1.dues_complete g (offered_within g (due_offered limit t s g due)) due

  may_fire : (fs : List Firing) → IsKept s x.dues.items x.firings.items fs → (f : Firing)
      → IsIn f fs → MayFire limit t s f
  may_fire fs k f a = record {
    settled = is_settled;
    offered = (v.1.sound f (k.sound f a).0).offered;
    unranked = (v.1.sound f (k.sound f a).0).unranked;
    unpreceded = λ g above due. (k.sound f a).1 (g.instance, due_in g due, above);
  }

  kept : (fs : List Firing) → IsKept s x.dues.items x.firings.items fs → (f : Firing)
      → MayFire limit t s f → IsIn f fs
  kept fs k f p = k.complete f
      (v.1.complete f (offered_within f p.offered)
      (record { offered = p.offered; unranked = p.unranked }))
      (λ w. let d = v.1.dues_sound w.0 w.1 in
      p.unpreceded d.0 (subst (λ n. IsAncestor s n f.instance) (sym d.1) w.2) d.2)

  pub offers_are : (fs : List Firing) → IsKept s x.dues.items x.firings.items fs
      → OffersAre limit t s Settled fs
  unfolding IsPossible
  offers_are fs k = (
    is_settled,
    record {
      ascending = k.ascending;
      sound = λ f a. may_fire fs k f a;
      complete = λ f p. kept fs k f p;
    },
  )

  -- WHAT IS DUE

  first_due : (many : ℕ) (ns : List ℕ) → many ≡ length ns → x.dues.items ≡ ns
      → nat_eq many 0 ≡ false → HasDue limit t s
  first_due many [] e is some = absurd (not_both (nat_eq many 0) (eq-eqb many 0 e) some)
  first_due many (n ∷ ns) e is some =
      let here : IsIn n (n ∷ ns) = inl refl in
      let d = v.1.dues_sound n (subst (IsIn n) (sym is) here) in
      (d.0, d.2)

  -- something is due just where there are instances that have a due choice
  pub due_so : (many : ℕ) → many ≡ length x.dues.items → (none : Bool) → none ≡ nat_eq many 0
      → IsTrue (not none) ↔ HasDue limit t s
  due_so many e true is = (
    λ h. absurd (not_both false h refl),
    λ d. absurd (not_both (nat_eq many 0) (sym is)
        (filled d.0.instance many x.dues.items e (due_in d.0 d.1))),
  )
  due_so many e false is = (λ h. first_due many x.dues.items e refl (sym is), λ d. refl)
