-- What the agreement of the last events says of a run.
use Rattle.std.proofs.Common.{◌≡◌, ℕ, ◌+◌, ◌<◌, ◌≤◌, List, ◌++◌, length, take, drop}
use Rattle.std.proofs.Common.{sym, ap, subst, ◌∙◌, arith}
use Rattle.std.proofs.lemmas.List.{length-append, length-take-le, take_all}
use Rattle.std.proofs.Math.Seq.{take-length, take-append-add}
use Rattle.est_meaning.specs.mean_blocks.TextByPlace.{text_of}
use Rattle.est_meaning.specs.declared.event.Event.{Event}
use Rattle.est_meaning.specs.Agreement.{AgreeAll, AgreeFirst}
use Rattle.est_meaning.specs.Endings.{IsTraceEnd}
use Rattle.est_meaning.specs.declared.run.Move.{Move}
use Rattle.est_meaning.specs.Run.{Setup, Place, IsBoundedRun, Follows, FollowsBefore}
use Rattle.est_meaning.specs.Run.{IsWhole, Explains, YieldsFirst}
use Rattle.est_meaning.proofs.AgreementLaws.{agree_length, take_on, first_taken}
use Rattle.est_meaning.proofs.Endings.{ends_whole, whole_ends}
use Rattle.est_meaning.proofs.RunLaws.{one_place}
use Rattle.est_meaning.proofs.TreeLaws.{IsOnTree}
use Rattle.est_search.specs.inside.Agreement.{AgreeFor}
use Rattle.est_search.proofs.AgreeForLaws.{agree_on, agree_most}

module _ (c : Setup) (y : List Move) (p : Place) (is : IsBoundedRun c y p) (es outs : List Event)
    (m k : ℕ) (so_far : AgreeAll (take m c.trace.events) es) (events : p.events ≡ es ++ outs)
    (a : AgreeFor c.trace.events m outs k) where
  many_before : length es ≡ m
  many_before = (let w = a.within in agree_length (take m c.trace.events) es so_far
      ∙ length-take-le m c.trace.events (omega arith))

  many_events : length p.events ≡ m + length outs
  many_events =
      let n = many_before in
      let e : length p.events ≡ length es + length outs = ap length events
      ∙ length-append es outs in
      omega arith

  -- the first m + k are those of the trace
  agree_so : AgreeAll (take (m + k) c.trace.events) (take (m + k) p.events)
  agree_so =
      let w = a.within in
      let front : take (m + k) c.trace.events
      ≡ take m c.trace.events ++ take k (drop m c.trace.events) =
      take_on m k c.trace.events (omega arith) in
      let here : take (m + k) p.events ≡ es ++ take k outs = ap (λ x. take (m + k) x) events
      ∙ subst (λ n. take (n + k) (es ++ outs) ≡ es ++ take k outs) many_before
      (take-append-add es outs k) in
      subst (λ xs. AgreeAll xs (take (m + k) p.events)) (sym front)
      (subst (λ x. AgreeAll (take m c.trace.events ++ take k (drop m c.trace.events)) x) (sym here)
      (agree_on c.trace.events es outs m k so_far a))

  pub yields_so : FollowsBefore c y → YieldsFirst c y (m + k)
  yields_so before = record {
    place = p;
    is_run = is;
    before = before;
    many = (let n = many_events in let w = a.many in omega arith);
    within = a.within;
    agree = agree_so;
  }

  pub yields_no_more : (j : ℕ) → YieldsFirst c y j → j ≤ m + k
  yields_no_more j h =
      let e : h.place ≡ p = one_place c y h.place p h.is_run is in
      let n : j ≤ length p.events = subst (λ (w : Place). j ≤ length w.events) e h.many in
      let all = many_events in
      let w = h.within in
      let same : AgreeAll (take j c.trace.events) (take j p.events) =
      subst (λ (w : Place). AgreeAll (take j c.trace.events) (take j w.events)) e h.agree in
      let same' : AgreeAll (take j c.trace.events) (take j (es ++ outs)) =
      subst (λ x. AgreeAll (take j c.trace.events) (take j x)) events same in
      let never : m + k < j → ⊥ = λ lt. agree_most c.trace.events es outs m k many_before a j lt
      (omega arith) (omega arith) same' in
      omega arith

  -- where the events depart from the trace, the run does not follow it
  pub departs : k < length outs → IsOnTree c y → ⊥
  departs short on =
      let e : on.place ≡ p = one_place c y on.place p on.is_run is in
      let f : AgreeFirst c.trace.events p.events = subst (λ w. Follows c w) e on.follows in
      let n = many_events in
      let first = first_taken c.trace.events p.events f in
      let len = first.0 in
      let n' = length p.events in
      let same : AgreeAll (take n' c.trace.events) (take n' p.events) =
      subst (λ x. AgreeAll (take n' c.trace.events) x) (sym (take-length p.events)) first.1 in
      agree_most c.trace.events es outs m k many_before a (length p.events) (omega arith) short
      (omega arith)
      (subst (λ x. AgreeAll (take n' c.trace.events) (take n' x)) events same)

module _ (c : Setup) (y : List Move) (p : Place) (is : IsBoundedRun c y p) (es outs : List Event)
    (m : ℕ) (so_far : AgreeAll (take m c.trace.events) es) (events : p.events ≡ es ++ outs)
    (a : AgreeFor c.trace.events m outs (length outs)) where
  -- the events of the run agree with so many of the trace
  pub agree_now : AgreeAll (take (m + length outs) c.trace.events) p.events
  agree_now =
      let n = many_events c y p is es outs m (length outs) so_far events a in
      subst (λ x. AgreeAll (take (m + length outs) c.trace.events) x)
      (take_all (m + length outs) p.events (omega arith))
      (agree_so c y p is es outs m (length outs) so_far events a)

  -- where the trace does not end there, the run does not explain it
  pub is_unfinished :
      (IsTraceEnd c.trace c.limit (text_of c.spec) p.situation (m + length outs) → ⊥)
      → Explains c y → ⊥
  is_unfinished never h =
      let e : h.place ≡ p = one_place c y h.place p h.is_run is in
      let w : IsWhole c p = subst (IsWhole c) e h.whole in
      never (whole_ends c p (m + length outs) a.within agree_now w)

  -- where it ends there, the run does
  pub explains_so : IsTraceEnd c.trace c.limit (text_of c.spec) p.situation (m + length outs)
      → Explains c y
  explains_so end = record {
    place = p;
    is_run = is;
    whole = ends_whole c p (m + length outs) agree_now end;
  }
