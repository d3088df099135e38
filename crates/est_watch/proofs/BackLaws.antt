-- The steps that go back.
use Rattle.std.proofs.Common.{◌≡◌, ℕ, ◌<◌, ◌⊎◌, Bool, List, [], ◌∷◌, ◌++◌, Option, Some}
use Rattle.std.proofs.Common.{length, refl, sym, ap, subst, ◌∙◌, inl, inr, arith}
use Rattle.est_meaning.specs.mean_blocks.GlobalSituation.{Situation}
use Rattle.est_meaning.specs.declared.firing.Firing.{Firing}
use Rattle.est_meaning.specs.SituationStacks.{Stack, pushed}
use Rattle.est_meaning.specs.declared.run.Move.{Move}
use Rattle.est_meaning.specs.declared.run.Move.TheVariants.{Take, Fire}
use Rattle.est_meaning.specs.Order.{Mark, Trying, MarkBefore, mark_of, marks_of, StartsWith}
use Rattle.est_meaning.specs.Run.{Setup}
use Rattle.est_meaning.proofs.OrderLaws.{starts_self}
use Rattle.est_meaning.proofs.TreeLaws.{IsInTree, nothing_starts}
use Rattle.run_paths.specs.declared.path.Stage.TheVariants.{Listed}
use Rattle.run_paths.specs.declared.path.Level.{Level}
use Rattle.run_paths.specs.Paths.{View, IsUndone}
use Rattle.est_search.specs.inside.Ahead.{IsLater, IsAfter, IsAhead}
use Rattle.est_search.specs.inside.Path.{place_at, gone_back, stage_after, StageIs, AreLeftBelow}
use Rattle.est_search.specs.inside.Path.{AreLower}
use Rattle.est_search.proofs.AheadLaws.{Skip}
use Rattle.est_search.proofs.PathLaws.{none_left, none_mine, IsListed, spent_stage}
use Rattle.est_watch.specs.inside.Known.{Knows}
use Rattle.est_watch.specs.inside.Walk.{IsOnWay, IsLeaving}
use Rattle.est_watch.proofs.KnownLaws.{known_skip}

-- LATER

later_by : (m n : Mark) (h y : List Mark) → MarkBefore m n → StartsWith y (n ∷ h)
    → IsLater (m ∷ h) y
later_by m n h y lt s = record {
  common = h;
  mark = m;
  next = n;
  order = lt;
  starts = starts_self (m ∷ h);
  goes_on = s;
}

later_more : (m : Mark) (h y : List Mark) → IsLater h y → IsLater (m ∷ h) y
later_more m h y l = record {
  common = l.common;
  mark = l.mark;
  next = l.next;
  order = l.order;
  starts = (m ∷ l.starts.0, ap (λ w. m ∷ w) l.starts.1);
  goes_on = l.goes_on;
}

later_split : (m : Mark) (h y common : List Mark) (k n : Mark) (later : List Mark)
    → m ∷ h ≡ later ++ k ∷ common → MarkBefore k n → StartsWith y (n ∷ common)
    → IsAhead h (Some m) y
later_split m h y common k n [] e lt s =
    let a : k ≡ m = cc in
    let b : common ≡ h = cc in
    inl (n, subst (λ w. MarkBefore w n) a lt, subst (λ w. StartsWith y (n ∷ w)) b s)
later_split m h y common k n (z ∷ later) e lt s =
    let b : h ≡ later ++ k ∷ common = cc in
    inr (record {
      common = common;
      mark = k;
      next = n;
      order = lt;
      starts = (later, b);
      goes_on = s;
    })

-- what is later than a run with one move more is what is ahead once that move is undone
skip_undone : (c : Setup) (m : Mark) (h : List Mark) → Skip c (IsLater (m ∷ h)) (IsAhead h (Some m))
skip_undone c m h = record {
  on = λ y tree l.
      later_split m h y l.common l.mark l.next l.starts.0 l.starts.1 l.order l.goes_on;
  back = λ y p. elim p [
    | inl a ↦ later_by m a.0 h y a.1 a.2
    | inr l ↦ later_more m h y l
  ];
}

-- nothing is later than the run without moves
skip_none : (c : Setup) → Skip c (IsLater []) (λ x. ⊥)
skip_none c = record {
  on = λ y tree l. nothing_starts l.mark l.common l.starts;
  back = λ y p. absurd p;
}

-- where nothing goes on, what is ahead is later
skip_spent : (c : Setup) (h : List Mark) (d : Option Mark)
    → ((n : Mark) (x : List Mark) → IsInTree c x → IsAfter d n → StartsWith x (n ∷ h) → ⊥)
    → Skip c (IsAhead h d) (IsLater h)
skip_spent c h d none = record {
  on = λ x tree p. elim p [
    | inl a ↦ absurd (none a.0 x tree a.1 a.2)
    | inr l ↦ l
  ];
  back = λ x l. inr l;
}

-- LEAVING

module _ (c : Setup) (exact : Bool) (stack : Stack) (v : View Move Firing) (tried : ℕ)
    (passed : Bool) (way : IsOnWay c exact stack v tried passed) (stage : v.stage ≡ Listed)
    (spent : (v.top.left ≡ 0) ⊎ (v.tries ≡ [])) where
  all_spent : way.at.mine ≡ []
  all_spent = none_mine way.at.mine way.at.rest (elim spent [
    | inl e ↦ inl (way.at.count ∙ e)
    | inr e ↦ inr (sym way.at.firings_are ∙ e)
  ])

  spent_listed : IsListed c stack.now v.stage way.dealt []
  spent_listed = spent_stage c stack.now v.stage way.dealt way.at.mine stage all_spent
      way.at.stage

  none_goes_on : (n : Mark) (x : List Mark) → IsInTree c x → IsAfter way.dealt n
      → StartsWith x (n ∷ marks_of v.moves) → ⊥
  none_goes_on n x tree a s = none_left c v.moves (place_at stack.now v.top way.at.node.events)
      spent_listed.mark way.at.node.is_run spent_listed.past spent_listed.left n x tree
      (subst (λ d. IsAfter d n) spent_listed.dealt_is a) s

  pub spent_leaving : IsLeaving c exact stack v tried passed
  spent_leaving = record {
    lower = subst (λ fs. AreLower c v.lower v.moves stack.below fs)
        (sym (way.at.firings_are ∙ ap (λ w. w ++ way.at.rest) all_spent)) way.at.lower;
    knows = known_skip c exact (IsAhead (marks_of v.moves) way.dealt) (IsLater (marks_of v.moves))
        (skip_spent c (marks_of v.moves) way.dealt none_goes_on) tried passed way.knows;
  }

-- GOING BACK

stage_back : (c : Setup) (s : Situation) (made : Move) (mine : List Firing)
    → AreLeftBelow c s made mine → StageIs c s (stage_after made) (Some (mark_of made)) mine
stage_back c s Take mine left = (refl, left)
stage_back c s (Fire f) mine left = (Trying f, refl, tt, left)

lower_depth : (c : Setup) (l : Level) (ls : List Level) (m : Move) (h : List Move)
    (below : List Situation) (firings : List Firing) → AreLower c (l ∷ ls) (m ∷ h) below firings
    → 0 < length below
lower_depth c l ls m h [] firings a = absurd a
lower_depth c l ls m h (s ∷ below) firings a = omega arith

no_moves : (c : Setup) (h : List Move) (below : List Situation) (firings : List Firing)
    → AreLower c [] h below firings → h ≡ []
no_moves c [] below firings a = refl
no_moves c (m ∷ h) below firings a = absurd a

module _ (c : Setup) (exact : Bool) (stack : Stack) (v : View Move Firing) (tried : ℕ)
    (passed : Bool) (leaving : IsLeaving c exact stack v tried passed) where
  pub back_depth : (made : Move) (w : View Move Firing) → IsUndone v made w → 0 < length stack.below
  back_depth made w undone =
      lower_depth c w.top w.lower made w.moves stack.below v.tries
      (subst (λ ls. AreLower c ls (made ∷ w.moves) stack.below v.tries) undone.lower
      (subst (λ h. AreLower c v.lower h stack.below v.tries) undone.moves leaving.lower))

  pub back_on : (made : Move) (w : View Move Firing) (stack' : Stack) → IsUndone v made w
      → stack ≡ pushed stack.now stack'
      → IsOnWay c exact stack' (gone_back w made) tried passed
  back_on made w stack' undone back =
      let below : stack.below ≡ stack'.now ∷ stack'.below = ap (λ (u : Stack). u.below) back in
      let l : AreLower c (w.top ∷ w.lower) (made ∷ w.moves) (stack'.now ∷ stack'.below) v.tries =
      subst (λ ss. AreLower c (w.top ∷ w.lower) (made ∷ w.moves) ss v.tries) below
      (subst (λ ls. AreLower c ls (made ∷ w.moves) stack.below v.tries) undone.lower
      (subst (λ h. AreLower c v.lower h stack.below v.tries) undone.moves leaving.lower)) in
      let k : Knows c exact (IsLater (marks_of (made ∷ w.moves))) tried passed =
      subst (λ h. Knows c exact (IsLater (marks_of h)) tried passed) undone.moves leaving.knows in
      record {
        dealt = Some (mark_of made);
        at = record {
          mine = l.0;
          rest = l.1;
          firings_are = undone.tries ∙ l.2;
          count = l.3;
          node = l.4;
          stage = stage_back c stack'.now made l.0 l.5;
          lower = l.6;
        };
        knows = known_skip c exact (IsLater (mark_of made ∷ marks_of w.moves))
            (IsAhead (marks_of w.moves) (Some (mark_of made)))
            (skip_undone c (mark_of made) (marks_of w.moves)) tried passed k;
      }

  -- nothing is left
  pub all_done : (v.lower ≡ []) ⊎ (v.moves ≡ []) → Knows c exact (λ x. ⊥) tried passed
  all_done end =
      let none : v.moves ≡ [] = elim end [
        | inl e ↦ no_moves c v.moves stack.below v.tries
            (subst (λ ls. AreLower c ls v.moves stack.below v.tries) e leaving.lower)
        | inr e ↦ e
      ] in
      known_skip c exact (IsLater []) (λ x. ⊥) (skip_none c) tried passed
      (subst (λ h. Knows c exact (IsLater (marks_of h)) tried passed) none leaving.knows)
