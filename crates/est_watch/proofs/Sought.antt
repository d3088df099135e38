-- What is sought has all events.
use Rattle.std.proofs.Common.{◌≡◌, ◌<◌, ◌≤◌, Bool, true, false, IsTrue, List, length, take}
use Rattle.std.proofs.Common.{subst, ap, ◌∙◌, arith}
use Rattle.std.proofs.lemmas.List.{length-take-le}
use Rattle.std.proofs.Math.Seq.{take-length}
use Rattle.est_meaning.specs.mean_blocks.GlobalSituation.{Situation}
use Rattle.est_meaning.specs.Agreement.{AgreeAll}
use Rattle.est_meaning.specs.declared.run.Move.{Move}
use Rattle.est_meaning.specs.Order.{marks_of}
use Rattle.est_meaning.specs.Run.{Setup, Place, IsBoundedRun, IsWhole, YieldsFirst}
use Rattle.est_meaning.proofs.AgreementLaws.{agree_length}
use Rattle.est_meaning.proofs.RunLaws.{one_place, explains_yields}
use Rattle.est_meaning.proofs.TreeLaws.{IsInTree, yields_in_tree, explains_in_tree}
use Rattle.run_paths.specs.declared.path.Level.{Level}
use Rattle.est_search.specs.inside.Path.{IsNode}
use Rattle.est_watch.specs.inside.Known.{IsSought}

pub sought_in_tree : (c : Setup) (exact : Bool) (r : List Move) → IsSought c exact r
    → IsInTree c (marks_of r)
sought_in_tree c false r y = yields_in_tree c r (length c.trace.events) y
sought_in_tree c true r e = explains_in_tree c r e

pub sought_yields : (c : Setup) (exact : Bool) (r : List Move) → IsSought c exact r
    → YieldsFirst c r (length c.trace.events)
sought_yields c false r y = y
sought_yields c true r e = explains_yields c r (length c.trace.events) (omega arith) e

-- a run with fewer events is not sought
pub few_not_sought : (c : Setup) (exact : Bool) (r : List Move) (p : Place) → IsBoundedRun c r p
    → length p.events < length c.trace.events → IsSought c exact r → ⊥
few_not_sought c exact r p is few s =
    let y = sought_yields c exact r s in
    let e : y.place ≡ p = one_place c r y.place p y.is_run is in
    let m : length c.trace.events ≤ length p.events =
    subst (λ (w : Place). length c.trace.events ≤ length w.events) e y.many in
    omega arith

-- nor does it explain the trace
pub few_open : (c : Setup) (p : Place) → length p.events < length c.trace.events → IsWhole c p → ⊥
few_open c p few w = (let n = agree_length c.trace.events p.events w.events in omega arith)

-- a run on the path has as many events as are matched
pub node_length : (c : Setup) (h : List Move) (s : Situation) (l : Level) (n : IsNode c h s l)
    → length n.events ≡ l.matched
node_length c h s l n =
    agree_length (take l.matched c.trace.events) n.events n.agree
    ∙ length-take-le l.matched c.trace.events n.within

-- and these are fewer than all, where the trace does not end quiet
pub node_few : (c : Setup) → (IsTrue c.trace.quiet → ⊥) → (h : List Move) (s : Situation)
    (l : Level) → IsNode c h s l → l.matched < length c.trace.events
node_few c loud h s l n =
    let never : l.matched ≡ length c.trace.events → ⊥ = λ e. n.unfinished (record {
      events = subst (λ xs. AgreeAll xs n.events)
          (ap (λ k. take k c.trace.events) e ∙ take-length c.trace.events) n.agree;
      quiet = λ q. absurd (loud q);
    }) in
    let w = n.within in
    omega (arith, never)
