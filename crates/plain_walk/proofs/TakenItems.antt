-- What firings take, by the steps in which it is found.
use Rattle.std.proofs.Common.{◌≡◌, refl, sym, ap, subst, ◌∙◌, ℕ, ℤ, nat_eq, Bool, true, false}
use Rattle.std.proofs.Common.{List, [], ◌∷◌, Option, Some, None}
use Rattle.std.proofs.lemmas.Bool.{eqb-true}
use Rattle.std.proofs.lemmas.Option.{none-some}
use Rattle.std.specs.Prelude.{option_and_then, if◌then◌else◌, find}
use Rattle.std.specs.Option.{option_map, option_map_or}
use Rattle.est_meaning.specs.mean_blocks.declared.situation.InteractionPoint.{InteractionPoint}
use Rattle.est_meaning.specs.mean_blocks.declared.situation.Item.{Item}
use Rattle.est_meaning.specs.mean_blocks.declared.situation.Row.{Row}
use Rattle.est_meaning.specs.mean_blocks.TextByPlace.{Text}
use Rattle.est_meaning.specs.mean_blocks.GlobalSituation.{Frame, Situation, is_numbered, row_of}
use Rattle.est_meaning.specs.mean_blocks.QueueEffects.{head_at, without_head}
use Rattle.est_meaning.specs.declared.firing.Firing.{Firing}
use Rattle.est_meaning.specs.ClauseContexts.{FullTransition, transitions_of}
use Rattle.est_meaning.specs.TransitionChoices.{Choice, numbered, any_tuples, any_frame, choice_by}
use Rattle.est_meaning.specs.TransitionChoices.{choice_in}
use Rattle.est_meaning.specs.GuardParts.{view_of}
use Rattle.est_meaning.specs.FiringSteps.{taking_point}
use Rattle.est_meaning.proofs.Options.{map_some, then_some, some_is}
use Rattle.est_plain.specs.plain_guards.plain_transitions.WrittenTransitions.{IsWritten}
use Rattle.est_plain.specs.plain_guards.plain_clauses.declared.candidate.Candidate.{Candidate}
use Rattle.est_plain.specs.plain_guards.plain_clauses.declared.sights.Sight.{Sight}
use Rattle.est_plain.specs.plain_guards.plain_clauses.JudgedGuards.{IsOf, IsView, IsTaking, IsSight}
use Rattle.plain_walk.specs.TakenItems.{IsTaken, IsTakenOf}
use Rattle.plain_walk.specs.inside.TakenHeads.{IsTakenAt, IsTakenBy}

-- WHERE THE `WHEN` OF A CHOICE HOLDS

pub same_rows : (t : Text) (point : Option InteractionPoint) (s u : Situation)
    → u ≡ option_map_or (λ p. without_head t p s) point s → u.rows ≡ s.rows
same_rows t None s u e = ap (λ (x : Situation). x.rows) e
same_rows t (Some p) s u e = ap (λ (x : Situation). x.rows) e

pub taken_there : (limit : ℕ) (t : Text) (s u v : Situation) (c : Choice) (frames : List Frame)
    (x : Sight) (item : Option Item) → IsSight limit t s c frames x → x.holds ≡ true → u ≡ s
    → IsTakenAt t x.taken u item v → IsTaken limit t s c item v
taken_there limit t s u v c frames x item h holds same at view e =
    let point : x.taken ≡ taking_point limit t s c =
    subst (IsTaking limit t s c x.taken) holds h.taken in (
      at.item_is ∙ ap (λ w. option_and_then (λ p. head_at t p w) x.taken) same
          ∙ ap (λ o. option_and_then (λ p. head_at t p s) o) point,
      at.rest ∙ ap (λ w. option_map_or (λ p. without_head t p w) x.taken w) same
          ∙ ap (λ o. option_map_or (λ p. without_head t p s) o s) point,
    )

-- WHERE IT DOES NOT

pub none_taken : (limit : ℕ) (t : Text) (s u : Situation) (c : Choice) (frames : List Frame)
    (x : Sight) (item : Option Item) → IsSight limit t s c frames x → x.holds ≡ false
    → IsTaken limit t s c item u
none_taken limit t s u c frames x item h holds view e =
    let none : view_of limit t s c ≡ None = subst (IsView limit t s c frames) holds h.view in
    absurd (none-some view (sym none ∙ e))

-- THE CHOICE OF A NUMBER

module _ (limit : ℕ) (t : Text) (s u : Situation) (y : Candidate) (number : ℕ)
    (item : Option Item) where
  choice_with : Row → FullTransition → List ℤ → Choice
  choice_with r x zs = record {
    row = r;
    number = y.number;
    transition = x;
    chosen = any_frame t.outline x zs;
  }

  -- there is none
  pub choice_missing : ((x : FullTransition) → IsWritten t.outline x y.transition.now
      → None ≡ option_map (any_frame t.outline x) (numbered (any_tuples t.outline x) number))
      → IsTakenBy limit t s y number item u
  unfolding choice_with
  choice_missing g r x n e h c is =
      let a = map_some (choice_with r x) (numbered (any_tuples t.outline x) number) c is in
      absurd (none-some _ (g x h ∙ ap (option_map (any_frame t.outline x)) a.1))

  -- there is one, with these values
  pub choice_there : (chosen : Frame)
      → ((x : FullTransition) → IsWritten t.outline x y.transition.now
      → Some chosen ≡ option_map (any_frame t.outline x) (numbered (any_tuples t.outline x) number))
      → ((c : Choice) → IsOf t y chosen c → IsTaken limit t s c item u)
      → IsTakenBy limit t s y number item u
  unfolding choice_with
  choice_there chosen g go r x n e h c is =
      let a = map_some (choice_with r x) (numbered (any_tuples t.outline x) number) c is in
      let b : Some chosen ≡ Some (any_frame t.outline x a.0) =
      g x h ∙ ap (option_map (any_frame t.outline x)) a.1 in
      go c (subst (IsOf t y chosen) a.2 (record {
        instance = n;
        state = e;
        number = refl;
        transition = h;
        chosen_is = sym (some_is chosen (any_frame t.outline x a.0) b);
      }))

-- FIRINGS

-- the row that is found has the number
found_number : (n : ℕ) (rs : List Row) (r : Row) → find (is_numbered n) rs ≡ Some r
    → r.number ≡ n
found_number n [] r e = absurd (none-some r e)
found_number n (q ∷ rs) r e = by (nat_eq n q.number) refl e (found_number n rs r)
  where
    by : (b : Bool) → nat_eq n q.number ≡ b
        → (if b then Some q else find (is_numbered n) rs) ≡ Some r
        → (find (is_numbered n) rs ≡ Some r → r.number ≡ n) → r.number ≡ n
    by true g k h = sym (eqb-true n q.number g ∙ ap (λ (y : Row). y.number) (some_is q r k))
    by false g k h = h k

module _ (limit : ℕ) (t : Text) (s u : Situation) (f : Firing) (item : Option Item) where
  -- no such instance lives
  pub row_missing : row_of s f.instance ≡ None → u.rows ≡ s.rows → IsTakenOf limit t s f item u
  row_missing e rows = record {
    rows = rows;
    taken = λ c is. (let a = then_some (choice_in t f) (row_of s f.instance) c is in
        absurd (none-some _ (sym e ∙ a.1)));
  }

  -- its body has no such transition
  pub transition_missing : (r : Row) → row_of s f.instance ≡ Some r
      → numbered (transitions_of t r.body) f.transition ≡ None → u.rows ≡ s.rows
      → IsTakenOf limit t s f item u
  transition_missing r e g rows = record {
    rows = rows;
    taken = λ c is. (
        let a = then_some (choice_in t f) (row_of s f.instance) c is in
        let same : a.0 ≡ r = some_is _ _ (sym a.1 ∙ e) in
        let b = then_some (choice_by t a.0 f.transition f.choice)
        (numbered (transitions_of t a.0.body) f.transition) c a.2 in
        absurd (none-some _ (sym g ∙ ap (λ (x : Row). numbered (transitions_of t x.body) f.transition)
        (sym same) ∙ b.1)));
  }

  -- it has one, as it is held
  pub transition_there : (v : Text) (r : Row) (x : FullTransition) (y : Candidate) → v ≡ t
      → row_of s f.instance ≡ Some r
      → numbered (transitions_of t r.body) f.transition ≡ Some x
      → IsWritten t.outline x y.transition.now
      → y.instance ≡ f.instance → y.state ≡ r.state → y.number ≡ f.transition
      → IsTakenBy limit v s y f.choice item u → u.rows ≡ s.rows → IsTakenOf limit t s f item u
  transition_there v r x y text e g h instance state number taken rows = record {
    rows = rows;
    taken = λ c is. (
        let a = then_some (choice_in t f) (row_of s f.instance) c is in
        let same : a.0 ≡ r = some_is _ _ (sym a.1 ∙ e) in
        let b = then_some (choice_by t r f.transition f.choice)
        (numbered (transitions_of t r.body) f.transition) c
        (subst (λ q. choice_in t f q ≡ Some c) same a.2) in
        let one : b.0 ≡ x = some_is _ _ (sym b.1 ∙ g) in
        let by : choice_by t r y.number f.choice x ≡ Some c =
        subst (λ n. choice_by t r n f.choice x ≡ Some c) (sym number)
        (subst (λ z. choice_by t r f.transition f.choice z ≡ Some c) one b.2) in
        subst (λ w. IsTakenBy limit w s y f.choice item u) text taken r x
        (found_number f.instance s.rows r e ∙ sym instance) (sym state) h c by);
  }
