-- Port runs are runs along merges.
use Rattle.std.proofs.Common.{◌≡◌, List, [], ◌∷◌, ◌++◌, map, refl, ap}
use Rattle.std.proofs.Common.{◌∙◌, append_assoc}
use Rattle.std.proofs.lemmas.List.{map-append}
use Rattle.est_meaning.proofs.AgreementLaws.{agree_self}
use Rattle.est_meaning.specs.Agreement.{AgreeFirst}
use Rattle.est_meaning.specs.RecordedTraces.{Recorded, known_trace}
use Rattle.est_meaning.specs.Run.{Setup, IsBoundedRun, IsFromOutside, Takes, Moves}
use Rattle.est_meaning.specs.declared.event.Event.{Event}
use Rattle.est_meaning.specs.declared.event.Event.TheVariants as event
use Rattle.est_meaning.specs.declared.trace.Expected.TheVariants.{Known}
use Rattle.mean_ports.specs.declared.lists.PortLists.{PortLists}
use Rattle.mean_ports.specs.declared.moves.PortMove.{PortMove}
use Rattle.mean_ports.specs.declared.moves.PortMove.TheVariants.{TakeAt, Pass, Fire}
use Rattle.mean_ports.specs.PortRunLaws.{PortRunsAreRuns, plain_move, plain_place}
use Rattle.mean_ports.specs.PortRuns.{PortPlace, Left, MovesOn, IsPortRun, along, after_outside}
use Rattle.mean_ports.proofs.Finishing.{added, move_adds, run_merges, run_finish}

-- the first of known events agree with them
pub known_first : (es rest : List Event) → AgreeFirst (map Known (es ++ rest)) es
known_first es rest = record {
  front = map Known es;
  rest = map Known rest;
  split = map-append Known es rest;
  agree = agree_self es;
}

module _ (c : Setup) (merge : Recorded) where
  -- an event from outside that is the next one of the merge is taken
  taken : (q p : PortPlace) (e : Event) (left : Left) (rest : List Event) → IsFromOutside e
      → p ≡ after_outside c q e left → merge ≡ known_trace (q.events ++ e ∷ rest)
      → Takes (along c merge) (plain_place q) (plain_place p)
  taken q p e left rest outside leads goes_on = record {
    event = e;
    front = map Known q.events;
    rest = map Known rest;
    outside = outside;
    agree = agree_self q.events;
    next = ap (λ (r : Recorded). r.events) goes_on ∙ map-append Known q.events (e ∷ rest);
    leads = ap plain_place leads;
  }

  -- a move along the lists is one along the merge
  moved : (q p : PortPlace) (m : PortMove) (t : MovesOn c q m p) (rest : List Event)
      → merge ≡ known_trace (q.events ++ (added c q p m t ++ rest))
      → Moves (along c merge) (plain_place q) (plain_move m) (plain_place p)
  moved q p (TakeAt port) t rest goes_on =
      taken q p (event.Arrives t.interaction) t.left rest tt t.leads goes_on
  moved q p Pass t rest goes_on =
      taken q p (event.Passes t.units)
      (record { now = t.phase; later = t.phases; times = t.times }) rest tt t.leads goes_on
  moved q p (Fire f) t rest goes_on = record {
    situation = t.situation;
    outs = t.outs;
    step = t.step;
    leads = ap plain_place t.leads;
  }

  -- a port run is a run along a merge that begins with its events
  pub runs_along : (lists : PortLists) (run : List PortMove) (p : PortPlace) (rest : List Event)
      → IsPortRun c lists run p → merge ≡ known_trace (p.events ++ rest)
      → IsBoundedRun (along c merge) (map plain_move run) (plain_place p)
  runs_along lists [] p rest s goes_on = ap plain_place s.place_is
  runs_along lists (m ∷ earlier) p rest r goes_on =
      let q = r.0 in
      let es = added c q p m r.2 in
      let a = move_adds c q p m r.2 in
      let before : merge ≡ known_trace (q.events ++ (es ++ rest)) = goes_on
      ∙ ap known_trace (ap (λ w. w ++ rest) a.events_are ∙ append_assoc q.events es rest) in (
        plain_place q,
        runs_along lists earlier q (es ++ rest) r.1 before,
        moved q p m r.2 rest before,
        r.3,
      )

pub port_runs_are_runs : PortRunsAreRuns
port_runs_are_runs c lists run p allowed r =
    let f = run_finish c lists run p allowed.many r in
    let merge = known_trace (p.events ++ f.0) in (
      merge,
      record {
        is_merge = record {
          events = p.events ++ f.0;
          known = refl;
          merges = run_merges c lists run p f.0 allowed.many r f.1;
        };
        is_run = runs_along c merge lists run p f.0 r refl;
        follows = known_first p.events f.0;
      },
    )
