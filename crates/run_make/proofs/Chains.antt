-- Draw by draw, from the start to what is made.
use Rattle.std.proofs.Common.{◌≡◌, refl, sym, ap, subst, ◌∙◌, ℕ, ◌*◌, ◌<◌, ◌≤◌}
use Rattle.std.proofs.Common.{List, [], length, reverse, Result, Ok, Err, IfOk}
use Rattle.est_syntax.specs.declared.specification.Spec.{Spec}
use Rattle.est_meaning.specs.mean_blocks.GlobalSituation.{Situation}
use Rattle.est_meaning.specs.mean_blocks.Outcome.{Done}
use Rattle.est_meaning.specs.mean_blocks.TextByPlace.{text_of}
use Rattle.est_meaning.specs.declared.event.Event.{Event}
use Rattle.est_meaning.specs.FiringSteps.{start_of}
use Rattle.est_meaning.proofs.Steps.{starts_begin_in_order}
use Rattle.est_meaning.specs.SituationStacks.{Stack, Keeps}
use Rattle.run_make.specs.declared.made.Made.{Made}
use Rattle.run_make.specs.declared.made.Made.TheVariants as made
use Rattle.run_make.specs.declared.making.Making.{Making}
use Rattle.run_make.specs.declared.making.Turn.{Turn}
use Rattle.run_make.specs.declared.making.Turn.TheVariants as turn
use Rattle.run_make.specs.Recipe.{Standing, Draws, Leads, PassesLimit, IsMade, IsMadeExplained}
use Rattle.run_make.specs.Recipe.{Task, task_of, first_standing}
use Rattle.run_make.specs.Recipe as recipe
use Rattle.run_make.specs.Words.{stream_at, words_of}
use Rattle.run_make.specs.inside.Standings.{standing_of, IsUntouched, HasPassed, EndedAs}
use Rattle.run_make.specs.inside.Standings.{MadeOf}
use Rattle.run_make.proofs.Explaining.{clock_on, made_explained}
use Rattle.run_make.proofs.Turning.{standing_with}

-- CALLS

-- what is so of a value is so
pub if_ok_map : {T E : Type 0} (P Q : T → Type 0) (r : Result T E) → ((v : T) → P v → Q v)
    → IfOk r P → IfOk r Q
if_ok_map P Q (Ok v) f p = f v p
if_ok_map P Q (Err e) f p = tt

-- calls one after the other keep what each of them keeps
pub keeps_both : {W : Type 0} (speaks : W → Spec → Type 0) (limit : W → ℕ) (a b d : W)
    → Keeps speaks limit a b → Keeps speaks limit b d → Keeps speaks limit a d
keeps_both speaks limit a b d x y = record {
  forward = λ s h. y.forward s (x.forward s h);
  backward = λ s h. x.backward s (y.backward s h);
  limit_is = y.limit_is ∙ x.limit_is;
}

-- CHAINS

module _ (limit again silent count : ℕ) (spec : Spec) (mid new : Making) (s now : Situation)
    (after : Stack) (there : after.now ≡ now) (same : again ≡ limit) where
  -- a draw, after which the world forgets
  draws_here : Draws (task_of again silent spec) (standing_of mid s) (standing_of new now)
      → Draws (task_of limit silent spec) (standing_of mid s) (standing_of new after.now)
  draws_here draws =
      subst (λ x. Draws (task_of limit silent spec) (standing_of mid s) (standing_of new x))
      (sym there)
      (subst (λ n. Draws (task_of n silent spec) (standing_of mid s) (standing_of new now)) same
      draws)

  pub leads_on : (p : Standing) → length mid.events < count
      → Leads (task_of limit silent spec) count p (standing_of mid s)
      → Draws (task_of again silent spec) (standing_of mid s) (standing_of new now)
      → Leads (task_of limit silent spec) count p (standing_of new after.now)
  leads_on p short leads draws = recipe.further leads short (draws_here draws)

  -- the clock goes on by ten units at most for each event
  pub clock_after : s.clock ≤ 10 * length mid.events
      → Draws (task_of again silent spec) (standing_of mid s) (standing_of new now)
      → after.now.clock ≤ 10 * length new.events
  clock_after before draws =
      clock_on (task_of limit silent spec) (standing_of mid s) (standing_of new after.now)
      (draws_here draws) before

-- a limit is passed
pub passed_on : (limit again silent count : ℕ) (spec : Spec) (old mid new : Making)
    (start s : Situation) → again ≡ limit → length mid.events < count
    → Leads (task_of limit silent spec) count (standing_of old start) (standing_of mid s)
    → PassesLimit (task_of again silent spec) (standing_of mid s) → IsUntouched mid new
    → HasPassed (task_of limit silent spec) count old start new
passed_on limit again silent count spec old mid new start s same short leads passes untouched =
    record {
      last = standing_of mid s;
      leads = leads;
      short = short;
      passes = subst (λ n. PassesLimit (task_of n silent spec) (standing_of mid s)) same passes;
      run_is = ap reverse untouched.run;
    }

-- THE START

-- the clock begins at 0
pub clock_begins : (limit : ℕ) (spec : Spec) (s : Situation) (outs : List Event)
    → start_of limit (text_of spec) ≡ Done outs s → s.clock ≡ 0
clock_begins limit spec s outs ready =
    (starts_begin_in_order limit (text_of spec) s outs ready).clock

module _ (limit silent seed count : ℕ) (spec : Spec) (old new : Making) (s now : Situation)
    (outs : List Event) (words : stream_at old.rng ≡ words_of seed) (run : old.run ≡ [])
    (events : old.events ≡ outs) (idle : old.idle ≡ 0)
    (ready : start_of limit (text_of spec) ≡ Done outs s) where
  begins : standing_of old s ≡ first_standing seed s outs
  begins =
      let none : reverse old.run ≡ [] = ap reverse run in
      λ i. standing_with (words i) (none i) s (events i) (idle i)

  pub made_so : (t : Turn) (m : Made)
      → EndedAs (task_of limit silent spec) count old s t new now → MadeOf t new m
      → IsMade (task_of limit silent spec) seed count m
  made_so turn.Made m ended is =
      let task = task_of limit silent spec in
      subst (IsMade task seed count) (sym is) (record {
        last = standing_of new now;
        makes = record {
          start = s;
          outs = outs;
          ready = ready;
          leads = subst (λ (p : Standing). Leads task count p (standing_of new now)) begins
              ended.leads;
        };
        enough = ended.enough;
        trace_is = refl;
        run_is = refl;
      })
  made_so turn.Limit m ended is =
      let task = task_of limit silent spec in
      subst (IsMade task seed count) (sym is) (record {
        last = ended.last;
        makes = record {
          start = s;
          outs = outs;
          ready = ready;
          leads = subst (λ (p : Standing). Leads task count p ended.last) begins ended.leads;
        };
        short = ended.short;
        passes = ended.passes;
        run_is = ended.run_is;
      })

-- what is made is explained
pub all_explained : (t : Task) (seed count : ℕ) (m : Made) → IsMade t seed count m
    → IsMadeExplained t m
all_explained t seed count (made.Trace trace run) is = made_explained t seed count trace run is
all_explained t seed count (made.NoStart fault) is = tt
all_explained t seed count made.StartLimit is = tt
all_explained t seed count (made.Limit run) is = tt
