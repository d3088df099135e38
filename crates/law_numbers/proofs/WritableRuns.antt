-- The firings of runs have numbers that an explanation may have.
use Rattle.std.proofs.Common.{◌≡◌, ℕ, zero, suc, ◌≤◌, List, [], ◌∷◌, length}
use Rattle.std.proofs.Common.{Some, arith}
use Rattle.std.specs.Prelude.{slice_get}
use Rattle.std.specs.List.{All, AllByRecursion}
use Rattle.std.proofs.lemmas.Option.{none-some}
use Rattle.est_check.specs.Clauses.{most_tuples}
use Rattle.est_check.specs.Small.{most_parts}
use Rattle.mean_blocks.specs.InstanceEffects.{most_instances}
use Rattle.mean_blocks.specs.TextByPlace.{Text, text_of}
use Rattle.mean_blocks.specs.GlobalSituation.{Situation, row_of}
use Rattle.est_meaning.specs.declared.firing.Firing.{Firing}
use Rattle.est_meaning.specs.ClauseContexts.{transitions_of}
use Rattle.est_meaning.specs.TransitionChoices.{Choice, numbered, any_tuples, choice_by}
use Rattle.est_meaning.specs.TransitionChoices.{choice_in, choice_of}
use Rattle.est_meaning.specs.TransitionSelection.{is_offered_choice, IsPossible}
use Rattle.est_meaning.proofs.Options.{then_some, map_some, or_true}
use Rattle.est_meaning.specs.declared.run.Move.{Move}
use Rattle.est_meaning.specs.declared.run.Move.TheVariants.{Take, Fire}
use Rattle.est_meaning.specs.Run.{Setup, Place, IsBegun, IsRun}
use Rattle.est_meaning.proofs.RunLaws.{bounded_is_run}
use Rattle.est_explanation.specs.CanonicalExplanation.{IsWritableFiring, IsWritableMove}
use Rattle.law_numbers.specs.WritableLaws.{IsShort, FiringsAreWritable, RunsAreWritable}
use Rattle.law_numbers.proofs.FewChoices.{choices_few}
use Rattle.law_numbers.proofs.FewInstances.{instances_few}
use Rattle.law_numbers.proofs.FewTransitions.{transitions_few}

-- LISTS

pub all_of : {A : Type 0} (P : A → Type 0) (xs : List A) → AllByRecursion P xs → All P xs
all_of P [] h k d l = absurd (omega (arith, l))
all_of P (x ∷ xs) h zero d l = h.0
all_of P (x ∷ xs) h (suc k) d l = all_of P xs h.1 k d (omega (arith, l))

-- an item stands no further back than a list is long
at_most : {A : Type 0} (xs : List A) (n : ℕ) (x : A) → slice_get xs n ≡ Some x → suc n ≤ length xs
at_most [] n x e = absurd (none-some x e)
at_most (y ∷ ys) zero x e = omega arith
at_most (y ∷ ys) (suc n) x e = let l = at_most ys n x e in omega (arith, l)

numbered_most : {A : Type 0} (xs : List A) (n : ℕ) (x : A) → numbered xs n ≡ Some x
    → n ≤ length xs
numbered_most xs zero x e = absurd (none-some x e)
numbered_most xs (suc n) x e = at_most xs n x e

-- FIRINGS

-- a firing that is possible has a choice
possible_choice : (limit : ℕ) (t : Text) (s : Situation) (f : Firing) → IsPossible limit t s f
    → (c : Choice) × (choice_of t s f ≡ Some c)
unfolding IsPossible
possible_choice limit t s f h =
    let a = or_true (is_offered_choice limit t s) (choice_of t s f) h.offered in (a.0, a.1)

-- its numbers are those of an instance, a transition and a choice that there may be
pub record IsNarrowFiring (f : Firing) : Type 0 where
  pub instance : f.instance ≤ most_instances
  pub transition : f.transition ≤ most_parts
  pub choice : f.choice ≤ most_tuples

firings_narrow : (c : Setup) (run : List Move) (p : Place) (f : Firing) → IsShort c.spec
    → IsBegun c → IsRun c run p → IsPossible c.limit (text_of c.spec) p.situation f
    → IsNarrowFiring f
firings_narrow c run p f short begun is possible =
    let t = text_of c.spec in
    let a = possible_choice c.limit t p.situation f possible in
    let b = then_some (choice_in t f) (row_of p.situation f.instance) a.0 a.1 in
    let d = then_some (choice_by t b.0 f.transition f.choice)
    (numbered (transitions_of t b.0.body) f.transition) a.0 b.2 in
    let e = map_some _ (numbered (any_tuples t.outline d.0) f.choice) a.0 d.2 in
    record {
      instance = instances_few c run p begun is f.instance b.0 b.1;
      transition = let k = short.few in
          omega (
            arith,
            numbered_most (transitions_of t b.0.body) f.transition d.0 d.1,
            transitions_few c.spec short.sentence b.0.body,
            k,
          );
      choice =
          omega (
            arith,
            numbered_most (any_tuples t.outline d.0) f.choice e.0 e.1,
            choices_few c.spec short.sentence short.good b.0.body f.transition d.0 d.1,
          );
    }

narrow_writable : (f : Firing) → IsNarrowFiring f → IsWritableFiring f
narrow_writable f narrow =
    let i = narrow.instance in
    let t = narrow.transition in
    let c = narrow.choice in
    record {
      instance = omega (arith, i);
      transition = omega (arith, t);
      choice = omega (arith, c);
    }

pub firings_writable : FiringsAreWritable
firings_writable c run p f short begun is possible =
    narrow_writable f (firings_narrow c run p f short begun is possible)

-- MOVES

-- what a taken event has, and each firing with such numbers, all moves of a run have
moves_have : (P : Move → Type 0) → P Take → ((f : Firing) → IsNarrowFiring f → P (Fire f))
    → (c : Setup) (run : List Move) (p : Place) → IsShort c.spec → IsBegun c → IsRun c run p
    → AllByRecursion P run
moves_have P taken fired c [] p short begun is = tt
moves_have P taken fired c (Take ∷ earlier) p short begun is =
    (taken, moves_have P taken fired c earlier is.0 short begun is.1)
moves_have P taken fired c (Fire f ∷ earlier) p short begun is = (
  fired f (firings_narrow c earlier is.0 f short begun is.1 is.2.step.possible),
  moves_have P taken fired c earlier is.0 short begun is.1,
)

-- the numbers of the move, if it has any, are such
abbrev pub IsNarrow : Move → Type 0
IsNarrow Take = Unit {0}
IsNarrow (Fire f) = IsNarrowFiring f

pub moves_narrow : (c : Setup) (run : List Move) (p : Place) → IsShort c.spec → IsBegun c
    → IsRun c run p → AllByRecursion IsNarrow run
moves_narrow c run p short begun is = moves_have IsNarrow tt (λ f n. n) c run p short begun is

pub runs_writable : RunsAreWritable
runs_writable c run p short begun is =
    all_of IsWritableMove run
    (moves_have IsWritableMove tt narrow_writable c run p short begun (bounded_is_run c run p is))
