-- Port runs that use their lists up explain merges, and only these do.
use Rattle.std.proofs.Common.{◌≡◌, ℕ, List, [], ◌∷◌, ◌++◌, map, refl, sym, ap, subst, ◌∙◌}
use Rattle.std.proofs.lemmas.List.{append-nil}
use Rattle.est_meaning.proofs.AgreementLaws.{agree_self, agree_same}
use Rattle.est_meaning.specs.Agreement.{AgreeAll}
use Rattle.est_meaning.specs.RecordedTraces.{Recorded, known_trace}
use Rattle.est_meaning.specs.declared.event.Event.{Event}
use Rattle.est_meaning.specs.declared.trace.Expected.TheVariants.{Known}
use Rattle.mean_ports.specs.Merges.{used_up, MergesOf}
use Rattle.mean_ports.specs.PortRunLaws.{plain_place}
use Rattle.mean_ports.specs.PortRuns.{Left, IsAllUsed}
use Rattle.mean_ports.specs.UsedUpRuns.{UsedUpRunsExplain, ExplainingRunsUseUp}
use Rattle.mean_ports.proofs.AlongMerges.{runs_along}
use Rattle.mean_ports.proofs.Finishing.{Finishes, run_merges}
use Rattle.mean_ports.proofs.FromMerges.{goes_on, phases_at, used_of, with_left}

-- where nothing is left, no events use it up
nothing_left : (left : Left) → IsAllUsed left → Finishes left []
nothing_left left u =
    subst (λ w. MergesOf (left.now ∷ left.later) w []) (sym u.times) (u.later, used_up u.now)

-- where no events use up what is left, nothing is
none_finish : (now : List (List Event)) (later : List (List (List Event))) (times : List ℕ)
    → MergesOf (now ∷ later) times []
    → IsAllUsed (record { now = now; later = later; times = times })
none_finish now later [] m = record { now = used_of now m.1; later = m.0; times = refl }
none_finish now later (u ∷ us) ([], rest, is, i, m) = (let never : ⊥ = cc in absurd never)
none_finish now later (u ∷ us) (e ∷ front, rest, is, i, m) = (let never : ⊥ = cc in absurd never)

pub used_up_runs_explain : UsedUpRunsExplain
used_up_runs_explain c lists run p allowed u =
    let es = p.events in
    let merged = run_merges c lists run p [] allowed.many u.is_run (nothing_left p.left u.all_used)
    in
    record {
      is_merge = record {
        events = es;
        known = refl;
        merges = subst (λ w. MergesOf lists.phases lists.times w) (append-nil es) merged;
      };
      explains = record {
        place = plain_place p;
        is_run = runs_along c (known_trace es) lists run p [] u.is_run
            (ap known_trace (sym (append-nil es)));
        whole = record {
          events = agree_self es;
          quiet = λ q. (let never : ⊥ = cc in absurd never);
        };
      };
    }

pub explaining_runs_use_up : ExplainingRunsUseUp
explaining_runs_use_up c lists merge run begun allowed m x =
    let p = x.place in
    let agree : AgreeAll (map Known m.events) p.events =
    subst (λ (w : Recorded). AgreeAll w.events p.events) m.known x.whole.events in
    let whole : m.events ≡ p.events ++ [] = sym (agree_same m.events p.events agree)
    ∙ sym (append-nil p.events) in
    let o = goes_on c lists merge m.events run p [] begun
    (phases_at c.spec lists.phases allowed.phases) m.merges x.is_run whole in
    record {
      moves = o.moves;
      place = with_left p o.left;
      uses_up = record {
        is_run = o.is_run;
        all_used = none_finish o.left.now o.left.later o.left.times o.finishes;
      };
      moves_are = o.moves_are;
    }
