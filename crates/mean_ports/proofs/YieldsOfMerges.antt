-- What port runs yield, they yield of merges.
use Rattle.std.proofs.Common.{◌≡◌, ◌≤◌, ◌+◌, ℕ, List, [], ◌∷◌, ◌++◌, length, take, refl}
use Rattle.std.proofs.Common.{sym, subst, append_assoc}
use Rattle.est_meaning.specs.mean_blocks.GlobalSituation.{Situation}
use Rattle.est_meaning.specs.mean_blocks.TextByPlace.{text_of}
use Rattle.est_meaning.specs.FiringSteps.{IsStep}
use Rattle.est_meaning.specs.RecordedTraces.{known_trace}
use Rattle.est_meaning.specs.Run.{Setup, silent_after}
use Rattle.est_meaning.specs.declared.event.Event.{Event}
use Rattle.est_meaning.specs.declared.firing.Firing.{Firing}
use Rattle.mean_ports.specs.declared.lists.PortLists.{PortLists}
use Rattle.mean_ports.specs.declared.moves.PortMove.{PortMove}
use Rattle.mean_ports.specs.declared.moves.PortMove.TheVariants as port_move
use Rattle.mean_ports.specs.Merges.{MergesOf}
use Rattle.mean_ports.specs.PortRuns.{PortPlace, IsPortRun, all_left}
use Rattle.mean_ports.specs.PortYields.{Reaches, by_run, by_start, by_firing, PortYieldsAreYields}
use Rattle.mean_ports.specs.PortYields.{YieldsOfMerge}
use Rattle.mean_ports.proofs.Finishing.{all_first, started, run_merges, run_finish, some_finish}
use Rattle.mean_ports.proofs.Finishing.{all_even, start_even, run_even}
use Rattle.mean_ports.proofs.GivenMerges

module _ (c : Setup) (lists : PortLists) (many : length lists.phases ≡ length lists.times + 1)
  where
    run_yields : (run : List PortMove) (k : ℕ) (p : PortPlace) → IsPortRun c lists run p
        → k ≤ length p.events → YieldsOfMerge c lists run k
    run_yields run k p r le =
        let f = run_finish c lists run p many r in
        let merge = known_trace (p.events ++ f.0) in
        record {
          merge = merge;
          is_merge = record {
            events = p.events ++ f.0;
            known = refl;
            merges = run_merges c lists run p f.0 many r f.1;
          };
          yields = GivenMerges.run_yields c merge lists run k p f.0 r le refl;
        }

    start_yields : (k : ℕ) → Reaches (all_left lists.phases lists.times) [] c.start_outs k
        → YieldsOfMerge c lists [] k
    start_yields k h =
        let left = all_left lists.phases lists.times in
        let front = take h.many c.start_outs in
        let even = all_even left h.after front h.next (start_even lists.phases lists.times many) in
        let f = some_finish h.after.now h.after.later h.after.times even in
        let merge = known_trace (front ++ f.0) in
        record {
          merge = merge;
          is_merge = record {
            events = front ++ f.0;
            known = refl;
            merges = started lists.phases lists.times (front ++ f.0) many
                (all_first left h.after front f.0 h.next f.1);
          };
          yields = GivenMerges.start_yields c merge lists k f.0 h refl;
        }

    firing_yields : (earlier : List PortMove) (k : ℕ) (f : Firing) (p : PortPlace)
        (next : Situation) (outs : List Event) → IsPortRun c lists earlier p
        → IsStep c.limit (text_of c.spec) p.situation f next outs
        → silent_after p.silent_in_row outs ≤ c.silent → Reaches p.left p.events outs k
        → YieldsOfMerge c lists (port_move.Fire f ∷ earlier) k
    firing_yields earlier k f p next outs r step silent h =
        let some = take h.many outs in
        let even = all_even p.left h.after some h.next (run_even c lists earlier p many r) in
        let g = some_finish h.after.now h.after.later h.after.times even in
        let front = p.events ++ some in
        let merge = known_trace (front ++ g.0) in
        record {
          merge = merge;
          is_merge = record {
            events = front ++ g.0;
            known = refl;
            merges = subst (λ w. MergesOf lists.phases lists.times w)
                (sym (append_assoc p.events some g.0))
                (run_merges c lists earlier p (some ++ g.0) many r
                (all_first p.left h.after some g.0 h.next g.1));
          };
          yields = GivenMerges.firing_yields c merge lists earlier k f p next outs g.0 r step silent
              h refl;
        }

pub port_yields_are_yields : PortYieldsAreYields
port_yields_are_yields c lists run k allowed (by_run p r le) =
    run_yields c lists allowed.many run k p r le
port_yields_are_yields c lists run k allowed (by_start h) =
    start_yields c lists allowed.many k h
port_yields_are_yields c lists run k allowed
    (by_firing {earlier = earlier} f p next outs r step silent h) =
    firing_yields c lists allowed.many earlier k f p next outs r step silent h
