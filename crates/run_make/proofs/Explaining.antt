-- What is made is a bounded run that explains its own events.
use Rattle.std.proofs.Common.{◌≡◌, refl, sym, subst, ◌∙◌, ℕ, ◌+◌, ◌*◌, ◌<◌, ◌≤◌}
use Rattle.std.proofs.Common.{arith}
use Rattle.std.proofs.Common.{List, [], ◌∷◌, ◌++◌, length, map, ap}
use Rattle.std.proofs.lemmas.List.{append-nil, length-append}
use Rattle.rand_core.specs.Stream.{Stream}
use Rattle.est_syntax.specs.declared.ports.Port.{Port}
use Rattle.est_meaning.specs.mean_blocks.GlobalSituation.{Situation}
use Rattle.est_meaning.specs.mean_blocks.Outcome.{Done}
use Rattle.est_meaning.specs.mean_blocks.TextByPlace.{text_of}
use Rattle.est_meaning.specs.declared.event.Event.{Event}
use Rattle.est_meaning.specs.declared.trace.Expected.{Expected}
use Rattle.est_meaning.specs.declared.trace.Expected.TheVariants.{Known}
use Rattle.est_meaning.specs.rule_declares.PortList.{ports_of}
use Rattle.est_meaning.specs.Agreement.{AgreeAll}
use Rattle.est_meaning.specs.FiringSteps.{start_of}
use Rattle.est_meaning.specs.OutsideEvents.{after_event, units_of}
use Rattle.est_meaning.specs.RecordedTraces.{Recorded}
use Rattle.est_meaning.proofs.AgreementLaws.{agree_self}
use Rattle.est_meaning.proofs.Endings.{not_true}
use Rattle.est_meaning.proofs.Outside.{events_are_outside}
use Rattle.est_meaning.proofs.Steps.{firings_are_orderly}
use Rattle.est_meaning.specs.declared.run.Move.{Move}
use Rattle.est_meaning.specs.Run.{Setup, Place, IsBoundedRun, IsFromOutside, silent_after}
use Rattle.run_make.specs.Recipe.{Task, Standing, Draws, DrawsOutside, Leads, Makes}
use Rattle.run_make.specs.Recipe.{first_standing, setup_along}
use Rattle.run_make.specs.Recipe.{MadeTracesAreExplained}
use Rattle.run_make.specs.Recipe as recipe
use Rattle.run_make.proofs.KnownEvents.{known_on}

-- SILENT FIRINGS

silent_within : (row idle most : ℕ) (outs : List Event) → row ≤ idle → idle < most
    → silent_after row outs ≤ most
silent_within row idle most [] few less = omega arith
silent_within row idle most (e ∷ es) few less = omega arith

silent_fewer : (row idle : ℕ) (outs : List Event) → row ≤ idle
    → silent_after row outs ≤ silent_after idle outs
silent_fewer row idle [] few = omega arith
silent_fewer row idle (e ∷ es) few = omega arith

-- BOUNDED RUNS

-- a bounded run leads to where a making stands
record RunsTo (c : Setup) (p : Standing) : Type 0 where
  row : ℕ
  few : row ≤ p.idle
  is_run : IsBoundedRun c p.run
      (record { situation = p.situation; events = p.events; silent_in_row = row })

-- and does so along each trace that begins with its events
record Reaches (t : Task) (p : Standing) : Type 0 where
  start : Situation
  outs : List Event
  ready : start_of t.limit (text_of t.spec) ≡ Done outs start
  along : (trace : Recorded) (rest : List Expected) → trace.events ≡ map Known p.events ++ rest
      → RunsTo (setup_along t trace start outs) p

from_outside : (ports : List Port) (words left : Stream) (e : Event)
    → DrawsOutside ports words e left → IsFromOutside e
from_outside ports words left e (recipe.arrives w next i drawn draws) = tt
from_outside ports words left e (recipe.passes w units drawn draws) = tt

reaches_on : (t : Task) (p q : Standing) → Draws t p q → Reaches t p → Reaches t q
reaches_on t p q (recipe.fires w left f s outs drawn chosen step) r = record {
  start = r.start;
  outs = r.outs;
  ready = r.ready;
  along = λ trace rest is.
      (let before = r.along trace (map Known outs ++ rest)
      (known_on trace.events p.events outs rest is) in
      record {
        row = silent_after before.row outs;
        few = silent_fewer before.row p.idle outs before.few;
        is_run = (
          record {
            situation = p.situation;
            events = p.events;
            silent_in_row = before.row;
          },
          before.is_run,
          record { situation = s; outs = outs; step = step; leads = refl },
          silent_within before.row p.idle t.silent outs before.few chosen.asks.few,
        );
      });
}
reaches_on t p q (recipe.faults w left f fault drawn chosen faulted) r = record {
  start = r.start;
  outs = r.outs;
  ready = r.ready;
  along = λ trace rest is.
      (let before = r.along trace rest is in
      record {
        row = before.row;
        few = (let n = before.few in omega arith);
        is_run = before.is_run;
      });
}
reaches_on t p q (recipe.happens w next left e drawn held draws) r = record {
  start = r.start;
  outs = r.outs;
  ready = r.ready;
  along = λ trace rest is.
      (let on = known_on trace.events p.events (e ∷ []) rest is in
      let before = r.along trace (Known e ∷ rest) on in
      record {
        row = 0;
        few = omega arith;
        is_run = (
          record {
            situation = p.situation;
            events = p.events;
            silent_in_row = before.row;
          },
          before.is_run,
          record {
            event = e;
            front = map Known p.events;
            rest = rest;
            outside = from_outside (ports_of t.spec) next left e draws;
            agree = agree_self p.events;
            next = on;
            leads = refl;
          },
          omega arith,
        );
      });
}

leads_reach : (t : Task) (count : ℕ) (p q : Standing) → Leads t count p q → Reaches t p
    → Reaches t q
leads_reach t count p q recipe.here r = r
leads_reach t count p q (recipe.further {q = m} leads short draws) r =
    reaches_on t m q draws (leads_reach t count p m leads r)

makes_reaches : (t : Task) (seed count : ℕ) (p : Standing) → Makes t seed count p → Reaches t p
makes_reaches t seed count p m =
    leads_reach t count (first_standing seed m.start m.outs) p m.leads (record {
      start = m.start;
      outs = m.outs;
      ready = m.ready;
      along = λ trace rest is. record { row = 0; few = omega arith; is_run = refl };
    })

pub made_explained : MadeTracesAreExplained
made_explained t seed count trace run made =
    let r = makes_reaches t seed count made.last made.makes in
    let to = r.along trace [] (ap (λ (w : Recorded). w.events) made.trace_is
    ∙ sym (append-nil (map Known made.last.events))) in
    let c : Setup = setup_along t trace r.start r.outs in
    let place : Place = record {
      situation = made.last.situation;
      events = made.last.events;
      silent_in_row = to.row;
    } in
    record {
      start = r.start;
      outs = r.outs;
      ready = r.ready;
      explains = record {
        place = place;
        is_run = subst (λ (moves : List Move). IsBoundedRun c moves place) (sym made.run_is)
            to.is_run;
        whole = record {
          events = subst (λ (w : Recorded). AgreeAll w.events made.last.events) (sym made.trace_is)
              (agree_self made.last.events);
          quiet = λ q. absurd
              (not_true (sym (ap (λ (w : Recorded). w.quiet) made.trace_is) ∙ q));
        };
      };
    }

-- THE CLOCK

units_few : (ports : List Port) (words left : Stream) (e : Event)
    → DrawsOutside ports words e left → units_of e ≤ 10
units_few ports words left e (recipe.arrives w next i drawn draws) = omega arith
units_few ports words left e (recipe.passes w units drawn draws) =
    let few = draws.units_are in omega arith

-- each event brings ten units at most
pub clock_on : (t : Task) (p q : Standing) → Draws t p q
    → p.situation.clock ≤ 10 * length p.events → q.situation.clock ≤ 10 * length q.events
clock_on t p q (recipe.fires w left f s outs drawn chosen step) before =
    let over = firings_are_orderly.goes_over t.limit (text_of t.spec) p.situation s f outs
    step.done in
    let same : s.clock ≡ p.situation.clock = over.clock in
    let many : length (p.events ++ outs) ≡ length p.events + length outs =
    length-append p.events outs in
    omega arith
clock_on t p q (recipe.faults w left f fault drawn chosen faulted) before = before
clock_on t p q (recipe.happens w next left e drawn held draws) before =
    let now : (after_event (text_of t.spec) p.situation e).clock
    ≡ p.situation.clock + units_of e = events_are_outside.clock (text_of t.spec) p.situation e in
    let many : length (p.events ++ e ∷ []) ≡ length p.events + 1 =
    length-append p.events (e ∷ []) in
    let few : units_of e ≤ 10 = units_few (ports_of t.spec) next left e draws in
    omega arith
