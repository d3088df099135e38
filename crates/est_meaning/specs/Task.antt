-- What a call on a world is about.
use Rattle.std.specs.Prelude.{◌≡◌, ℕ, List}
use Rattle.est_syntax.specs.declared.specification.Spec.{Spec}
use Rattle.mean_blocks.specs.GlobalSituation.{Situation}
use Rattle.est_meaning.specs.declared.event.Event.{Event}
use Rattle.est_meaning.specs.AllowedEvents.{IsAllowedTrace}
use Rattle.est_meaning.specs.RecordedTraces.{Recorded}
use Rattle.est_meaning.specs.SituationStacks.{Stack}
use Rattle.est_meaning.specs.Run.{Setup, IsBegun}

-- the runs of a specification along a trace, from this situation and these events of its start
abbrev pub setup_from : ℕ → ℕ → Spec → Recorded → Situation → List Event → Setup
setup_from limit silent spec trace start outs = record {
  spec = spec;
  limit = limit;
  silent = silent;
  trace = trace;
  start = start;
  start_outs = outs;
}

-- the runs from the situation in which a world stands, after these events of its start
abbrev pub setup_of : ℕ → ℕ → Recorded → Stack → List Event → Spec → Setup
setup_of limit silent trace stack outs spec = setup_from limit silent spec trace stack.now outs

-- the setup is of these, its start is ready and its trace within its limits
pub record Suits (c : Setup) (spec : Spec) (limit silent : ℕ) (trace : Recorded) : Type 0 where
  pub spec_is : c.spec ≡ spec
  pub limit_is : c.limit ≡ limit
  pub silent_is : c.silent ≡ silent
  pub trace_is : c.trace ≡ trace
  pub begun : IsBegun c
  pub allowed : IsAllowedTrace c.spec c.trace

-- no move was made yet
pub record IsSetup (c : Setup) (spec : Spec) (limit silent : ℕ) (trace : Recorded) (stack : Stack)
    (outs : List Event) : Type 0 where
  pub suits : Suits c spec limit silent trace
  pub start_is : c.start ≡ stack.now
  pub outs_are : c.start_outs ≡ outs
