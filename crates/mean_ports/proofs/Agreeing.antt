-- Right verdicts do not speak against each other.
use Rattle.std.proofs.Common.{◌≡◌, ◌≤◌, ℕ, List, map, reverse, sym, subst, Option, arith}
use Rattle.est_meaning.specs.RecordedTraces.{Recorded, known_trace}
use Rattle.est_meaning.specs.Run.{Setup, Place, IsBegun}
use Rattle.est_meaning.specs.declared.firing.Firing.{Firing}
use Rattle.est_meaning.specs.declared.run.Move.{Move}
use Rattle.mean_ports.specs.declared.lists.PortLists.{PortLists}
use Rattle.mean_ports.specs.declared.verdict.PortsVerdict.TheVariants.{Accepted, Refused}
use Rattle.mean_ports.specs.declared.verdict.PortsVerdict.TheVariants.{OverTries, OverAction}
use Rattle.mean_ports.specs.Merges.{AreAllowedLists}
use Rattle.mean_ports.specs.PortRunLaws.{plain_move}
use Rattle.mean_ports.specs.PortTrials.{PassesIn, PassesOnTree}
use Rattle.mean_ports.specs.PortsVerdict.{IsMostYielded, IsOverSomewhere}
use Rattle.mean_ports.specs.VerdictLaws.{VerdictsAgree}
use Rattle.mean_ports.proofs.FromMerges.{runs_are_port_runs}
use Rattle.mean_ports.proofs.UsingUp.{used_up_runs_explain}

-- what passes its limit after a run along a merge does so on the tree of port runs
pub on_tree : (c : Setup) (lists : PortLists) (budget : ℕ) (merge : Recorded) (run : List Move)
    (events : ℕ) (firing : Option Firing) → IsBegun c → AreAllowedLists c.spec lists
    → IsOverSomewhere c lists budget merge run events firing → PassesOnTree c lists
on_tree c lists budget merge run events firing begun allowed o =
    let q = runs_are_port_runs c lists merge run o.place begun allowed o.is_merge o.is_run
    o.follows in
    record {
      run = q.moves;
      place = q.place;
      inner = record {
        is_run = q.is_run;
        unfinished = λ u.
            let x = used_up_runs_explain c lists q.moves q.place allowed
            (record { is_run = q.is_run; all_used = u }) in
            o.none (known_trace q.place.events) (map plain_move q.moves) x.is_merge x.explains;
      };
      firing = firing;
      passes = subst (λ (w : Place). PassesIn c w.situation firing) (sym q.place_is) o.passes;
    }

-- the most that is yielded is one number
one_most : (c : Setup) (lists : PortLists) (j k : ℕ) (a b : Recorded) (r s : List Move)
    → IsMostYielded c lists j a r → IsMostYielded c lists k b s → j ≡ k
one_most c lists j k a b r s x y =
    let below : j ≤ k = y.no_more a r j x.is_merge x.yields in
    let above : k ≤ j = x.no_more b s k y.is_merge y.yields in
    omega arith

pub verdicts_agree : VerdictsAgree
verdicts_agree c lists budget other (OverTries a) w begun allowed x y = tt
verdicts_agree c lists budget other (Accepted m r) (OverTries b) begun allowed x y = tt
verdicts_agree c lists budget other (Accepted m r) (Accepted n s) begun allowed x y = tt
verdicts_agree c lists budget other (Accepted m r) (Refused most n s) begun allowed x y =
    absurd (y.none m (reverse r) x.is_merge x.explains)
verdicts_agree c lists budget other (Accepted m r) (OverAction n s j g) begun allowed x y =
    absurd (y.none m (reverse r) x.is_merge x.explains)
verdicts_agree c lists budget other (Refused most m r) (OverTries b) begun allowed x y = tt
verdicts_agree c lists budget other (Refused most m r) (Accepted n s) begun allowed x y =
    absurd (x.none n (reverse s) y.is_merge y.explains)
verdicts_agree c lists budget other (Refused most m r) (Refused k n s) begun allowed x y =
    one_most c lists most k m n (reverse r) (reverse s) x.greatest y.greatest
verdicts_agree c lists budget other (Refused most m r) (OverAction n s j g) begun allowed x y =
    absurd (x.within (on_tree c lists other n (reverse s) j g begun allowed y))
verdicts_agree c lists budget other (OverAction m r i f) (OverTries b) begun allowed x y = tt
verdicts_agree c lists budget other (OverAction m r i f) (Accepted n s) begun allowed x y =
    absurd (x.none n (reverse s) y.is_merge y.explains)
verdicts_agree c lists budget other (OverAction m r i f) (Refused k n s) begun allowed x y =
    absurd (y.within (on_tree c lists budget m (reverse r) i f begun allowed x))
verdicts_agree c lists budget other (OverAction m r i f) (OverAction n s j g) begun allowed x y = tt
