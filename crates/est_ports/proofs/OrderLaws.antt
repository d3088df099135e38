-- Events in order use up what is left, and make merges.
use Rattle.std.proofs.Common.{◌≡◌, ◌<◌, ◌+◌, ℕ, zero, suc, List, [], ◌∷◌, ◌++◌, length}
use Rattle.std.proofs.Common.{drop, map, All, Some, refl, sym, ap, subst, ◌∙◌, arith}
use Rattle.std.proofs.Common.{append_assoc, get_or, take, reverse, false}
use Rattle.std.proofs.lemmas.List.{append-nil, length-drop, map-append}
use Rattle.std.proofs.lemmas.List.{reverse-append}
use Rattle.est_meaning.specs.RecordedTraces.{Recorded, known_trace, HasUnseen}
use Rattle.est_meaning.specs.declared.event.Event.{Event}
use Rattle.est_meaning.specs.declared.event.Event.TheVariants as event
use Rattle.est_meaning.specs.declared.trace.Expected.{Expected}
use Rattle.est_meaning.specs.declared.trace.Expected.TheVariants.{Known}
use Rattle.mean_ports.specs.declared.lists.PortLists.{PortLists}
use Rattle.mean_ports.specs.Merges.{Interleaves, used_up, MergesOf}
use Rattle.mean_ports.specs.PortRuns.{Left, all_left}
use Rattle.mean_ports.proofs.Finishing.{Finishes, one_first, time_first, started, none_used}
use Rattle.mean_ports.proofs.Finishing.{behind_empty, first_list}
use Rattle.est_ports.specs.declared.left.Used.{Used}
use Rattle.est_ports.specs.declared.left.Used.TheVariants.{At, Time}
use Rattle.est_ports.specs.inside.Cursors.{cut, first_at}
use Rattle.est_ports.specs.inside.Leftover.{lists_of, left_at, Stand, first_stand, UsesAt, UsesTime}
use Rattle.est_ports.specs.inside.Leftover.{Uses, LeadsTo, HasUsedUp, MergesFrom}
use Rattle.est_ports.specs.inside.PortOrder.{in_order, phases_in_order, left_in_order, next_events}
use Rattle.est_ports.specs.inside.PortOrder.{event_of, time_of, HasWritten, HasWrittenAll}
use Rattle.est_ports.proofs.CursorLaws.{cut_starts, first_cut}
use Rattle.est_ports.proofs.LeftLaws.{left_of, used_next, used_time, drop_some}
use Rattle.est_ports.proofs.UseLaws.{take_one, item_at}

-- IN ORDER

-- one list after the other they use lists up
order_all : (lists : List (List Event)) → Interleaves lists (in_order lists)
order_all [] = used_up none_used
order_all (es ∷ lists) =
    first_list es lists (in_order lists) (behind_empty lists (in_order lists) (order_all lists))

-- and phase by phase what is left
finish_order : (now : List (List Event)) (later : List (List (List Event))) (times : List ℕ)
    → length later ≡ length times
    → MergesOf (now ∷ later) times (in_order now ++ phases_in_order later times)
finish_order now [] [] n =
    (refl, subst (λ w. Interleaves now w) (sym (append-nil (in_order now))) (order_all now))
finish_order now [] (u ∷ us) n = (let never : ⊥ = omega arith in absurd never)
finish_order now (p ∷ ps) [] n = (let never : ⊥ = omega arith in absurd never)
finish_order now (p ∷ ps) (u ∷ us) n = (
  in_order now,
  in_order p ++ phases_in_order ps us,
  refl,
  order_all now,
  finish_order p ps us (omega arith),
)

-- MERGES

module _ (lists : PortLists) (many : length lists.phases ≡ length lists.times + 1) where
  -- the phase is one of the lists
  phase_below : (used : List Used) (t : Stand) → LeadsTo lists used t
      → t.phase < length lists.phases
  phase_below [] t l = (let n : t.phase ≡ 0 = ap (λ (w : Stand). w.phase) l in omega arith)
  phase_below (At port ∷ used) t l =
      let n = phase_below used l.0 l.1 in
      let same : t.phase ≡ l.0.phase = ap (λ (w : Stand). w.phase) l.2.leads in
      omega arith
  phase_below (Time ∷ used) t l =
      let n = l.2.more in
      let same : t.phase ≡ l.0.phase + 1 = ap (λ (w : Stand). w.phase) l.2.leads in
      omega arith

  -- as many times are left as phases
  even_there : (n : ℕ) → n < length lists.phases
      → length (all_left (drop n lists.phases) (drop n lists.times)).later
      ≡ length (all_left (drop n lists.phases) (drop n lists.times)).times
  even_there n lt =
      let here = drop_some lists.phases n lt in
      let size : length (drop n lists.phases) ≡ suc (length here.1) = ap length here.2 in
      let left : all_left (drop n lists.phases) (drop n lists.times)
      ≡ record { now = here.0; later = here.1; times = drop n lists.times } =
      ap (λ w. all_left w (drop n lists.times)) here.2 in
      let few : length here.1 ≡ length (drop n lists.times) =
      omega (arith, length-drop n lists.phases, length-drop n lists.times) in
      subst (λ (w : Left). length w.later ≡ length w.times) (sym left) few

  -- what uses up what is left makes a merge behind what was used up
  pub leads_merges : (used : List Used) (t : Stand) (rest : List Event) → LeadsTo lists used t
      → Finishes (left_of lists t) rest → MergesOf lists.phases lists.times (t.events ++ rest)
  leads_merges [] t rest l f =
      let first = first_stand lists in
      let whole : left_of lists first ≡ all_left lists.phases lists.times =
      ap (λ w. record (all_left lists.phases lists.times) { now = w })
      (cut_starts (lists_of lists 0)) in
      let all : Finishes (all_left lists.phases lists.times) rest =
      subst (λ w. Finishes w rest) whole
      (subst (λ (w : Stand). Finishes (left_of lists w) rest) l f)
      in
      subst (λ (w : Stand). MergesOf lists.phases lists.times (w.events ++ rest)) (sym l)
      (started lists.phases lists.times rest many all)
  leads_merges (At port ∷ used) t rest l f =
      let s = l.0 in
      let u : UsesAt lists s port t = l.2 in
      let g = one_first (left_of lists s) (left_of lists t) u.event rest
      (used_next lists s t port u) f in
      let before = leads_merges used s (u.event ∷ rest) l.1 g in
      let events : t.events ++ rest ≡ s.events ++ (u.event ∷ rest) =
      ap (λ (w : Stand). w.events ++ rest) u.leads ∙ append_assoc s.events (u.event ∷ []) rest in
      subst (λ w. MergesOf lists.phases lists.times w) (sym events) before
  leads_merges (Time ∷ used) t rest l f =
      let s = l.0 in
      let u : UsesTime lists s t = l.2 in
      let x = used_time lists s t u in
      let now = (left_of lists s).now in
      let m : MergesOf (x.phase ∷ x.phases) x.times rest =
      subst (λ w. Finishes w rest) x.after_is f in
      let g : Finishes (left_of lists s) (event.Passes u.units ∷ rest) =
      subst (λ w. MergesOf (now ∷ w) (left_of lists s).times (event.Passes u.units ∷ rest))
      (sym x.phases_are)
      (subst (λ w. MergesOf (now ∷ x.phase ∷ x.phases) w (event.Passes u.units ∷ rest))
      (sym x.times_are) (time_first now x.phase x.phases u.units x.times rest x.used_up m)) in
      let before = leads_merges used s (event.Passes u.units ∷ rest) l.1 g in
      let events : t.events ++ rest ≡ s.events ++ (event.Passes u.units ∷ rest) =
      ap (λ (w : Stand). w.events ++ rest) u.leads
      ∙ append_assoc s.events (event.Passes u.units ∷ []) rest in
      subst (λ w. MergesOf lists.phases lists.times w) (sym events) before

  -- so what was used up and what is left make a merge
  pub merges_from : (used : List Used) (left : Left) (events : List Event) (merge : Recorded)
      → merge.quiet ≡ false → HasWrittenAll lists used merge.events
      → HasUsedUp lists used left events → MergesFrom lists events merge
  merges_from used left events merge quiet w u =
      let t = u.stand in
      let rest = left_in_order (left_of lists t) in
      let es : w.events ≡ events ++ rest = w.are t u.leads
      ∙ ap (λ x. x ++ rest) (sym u.events_are) in
      let is : merge ≡ known_trace (events ++ rest) =
      ap (λ x. record { events = merge.events; quiet = x }) quiet
      ∙ ap (λ x. record { events = x; quiet = false }) (w.new_is ∙ ap (λ x. map Known x) es) in
      let l = left_of lists t in
      let finish : Finishes l rest = finish_order l.now l.later l.times
      (even_there t.phase (phase_below used t u.leads)) in
      record {
        rest = rest;
        merge_is = is;
        is_merge = record {
          events = events ++ rest;
          known = is;
          merges = subst (λ x. MergesOf lists.phases lists.times (x ++ rest)) (sym u.events_are)
              (leads_merges used t rest u.leads finish);
        };
      }

-- WRITING

-- known events may stand in a trace
pub all_seen : (es : List Event) → All HasUnseen (map Known es)
all_seen [] k d lt = (let never : ⊥ = omega arith in absurd never)
all_seen (e ∷ es) zero d lt = tt
all_seen (e ∷ es) (suc k) d lt = all_seen es k d (omega arith)

module _ (lists : PortLists) where
  -- what is used up next is the next event
  uses_events : (s t : Stand) (u : Used) → Uses lists s u t
      → t.events ≡ s.events ++ next_events lists s.phase s.cursors u
  uses_events s t (At port) u =
      let first : first_at (cut s.cursors (lists_of lists s.phase)) port ≡ Some u.event =
      first_cut s.cursors (lists_of lists s.phase) port u.cursor u.list u.cursor_is u.list_is
      ∙ u.event_is in
      ap (λ (w : Stand). w.events) u.leads
      ∙ ap (λ w. s.events ++ event_of w) (sym first)
  uses_events s t Time u =
      ap (λ (w : Stand). w.events) u.leads ∙ ap (λ w. s.events ++ time_of w) (sym u.units_is)

  -- one thing more is written
  pub written_more : (used : List Used) (u : Used) (phase later : ℕ) (cursors moved : List ℕ)
      (old mid new : List Expected) → HasWritten lists used phase cursors old mid
      → new ≡ mid ++ map Known (next_events lists phase cursors u)
      → ((events : List Event) (t : Stand)
      → Uses lists (record { phase = phase; cursors = cursors; events = events }) u t
      → record { phase = later; cursors = moved; events = t.events } ≡ t)
      → HasWritten lists (u ∷ used) later moved old new
  written_more used u phase later cursors moved old mid new w written leads =
      let es = next_events lists phase cursors u in
      record {
        events = w.events ++ es;
        new_is = written ∙ ap (λ x. x ++ map Known es) w.new_is
            ∙ append_assoc old (map Known w.events) (map Known es)
            ∙ ap (λ x. old ++ x) (sym (map-append Known w.events es));
        leads = λ t l.
            let here : Stand = record { phase = phase; cursors = cursors; events = w.events } in
            let same : here ≡ l.0 = w.leads l.0 l.1 in
            let uses : Uses lists here u t = subst (λ x. Uses lists x u t) (sym same) l.2 in
            let events : t.events ≡ w.events ++ es = uses_events here t u uses in
            ap (λ x. record { phase = later; cursors = moved; events = x }) (sym events)
            ∙ leads w.events t uses;
      }

  -- what is used up next is read so
  pub written_step : (used : List Used) (at : ℕ) (u : Used) (phase later : ℕ)
      (cursors moved : List ℕ) (old mid new : List Expected) → at < length used
      → get_or used at u ≡ u → HasWritten lists (reverse (take at used)) phase cursors old mid
      → new ≡ mid ++ map Known (next_events lists phase cursors u)
      → ((events : List Event) (t : Stand)
      → Uses lists (record { phase = phase; cursors = cursors; events = events }) u t
      → record { phase = later; cursors = moved; events = t.events } ≡ t)
      → HasWritten lists (reverse (take (at + 1) used)) later moved old new
  written_step used at u phase later cursors moved old mid new lt is w written leads =
      let one : at + 1 ≡ suc at = omega arith in
      let more : u ∷ reverse (take at used) ≡ reverse (take (at + 1) used) =
      sym (reverse-append (take at used) (u ∷ []))
      ∙ ap reverse (sym (ap (λ x. take x used) one ∙ take_one used at u (item_at used at u lt is)))
      in
      subst (λ x. HasWritten lists x later moved old new) more
      (written_more (reverse (take at used)) u phase later cursors moved old mid new w written
      leads)

  -- nothing is written
  pub written_none : (phase : ℕ) (cursors : List ℕ) (old : List Expected)
      → record { phase = phase; cursors = cursors; events = [] } ≡ first_stand lists
      → HasWritten lists [] phase cursors old old
  written_none phase cursors old here = record {
    events = [];
    new_is = sym (append-nil old);
    leads = λ t l. here ∙ sym l;
  }

  -- and then what is left
  pub written_all : (used : List Used) (phase : ℕ) (cursors : List ℕ) (old mid new : List Expected)
      → old ≡ [] → HasWritten lists used phase cursors old mid
      → new ≡ mid ++ map Known (left_in_order (left_at lists phase cursors))
      → HasWrittenAll lists used new
  written_all used phase cursors old mid new nothing w written =
      let es = left_in_order (left_at lists phase cursors) in
      record {
        events = w.events ++ es;
        new_is = written ∙ ap (λ x. x ++ map Known es) (w.new_is
            ∙ ap (λ x. x ++ map Known w.events) nothing)
            ∙ sym (map-append Known w.events es);
        are = λ t l.
            let same : record { phase = phase; cursors = cursors; events = w.events } ≡ t =
            w.leads t l in
            ap (λ (x : Stand). x.events ++ left_in_order (left_of lists x)) same;
      }
