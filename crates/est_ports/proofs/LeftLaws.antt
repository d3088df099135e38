-- What was used up of lists, and what is left of them.
use Rattle.std.proofs.Common.{◌≡◌, ◌≤◌, ◌<◌, ◌+◌, ℕ, zero, suc, List, [], ◌∷◌, ◌++◌, length}
use Rattle.std.proofs.Common.{drop, Some, refl, sym, ap, subst, ◌∙◌, arith}
use Rattle.std.proofs.lemmas.List.{length-append}
use Rattle.std.specs.Prelude.{slice_get, slice_set}
use Rattle.est_meaning.specs.declared.event.Event.{Event}
use Rattle.est_meaning.specs.declared.event.Event.TheVariants as event
use Rattle.mean_ports.specs.declared.lists.PortLists.{PortLists}
use Rattle.mean_ports.specs.Merges.{IsAt, AreUsedUp}
use Rattle.mean_ports.specs.PortRuns.{Left, all_left, IsNextAt}
use Rattle.est_ports.specs.declared.left.Used.{Used}
use Rattle.est_ports.specs.declared.left.Used.TheVariants.{At, Time}
use Rattle.est_ports.specs.inside.Cursors.{cut, starts, AreWithin}
use Rattle.est_ports.specs.inside.Leftover.{lists_of, left_at, Stand, UsesAt, UsesTime}
use Rattle.est_ports.specs.inside.Leftover.{Uses, LeadsTo, HasUsedUp, PassesNext}
use Rattle.est_ports.proofs.CursorLaws.{drop_begins, drop_item, get_below, cut_begins, cut_set}
use Rattle.est_ports.proofs.CursorLaws.{cut_at, cut_starts, cut_ends, ended, within_starts}
use Rattle.est_ports.proofs.CursorLaws.{within_set}

-- EVENTS

-- an event is at one port
pub one_port : (port other : ℕ) (e : Event) → IsAt port e → IsAt other e → port ≡ other
one_port port other (event.Arrives i) a b = sym a ∙ b
one_port port other (event.Leaves i) a b = sym a ∙ b
one_port port other (event.Passes units) a b = absurd a

-- what is left where a stand is
abbrev pub left_of : PortLists → Stand → Left
left_of lists s = left_at lists s.phase s.cursors

-- an event can be used up
pub record CanUse (lists : PortLists) (s : Stand) (port : ℕ) (e : Event) (after : Left) : Type 0
  where
    pub to : Stand
    pub uses : UsesAt lists s port to
    pub events_are : to.events ≡ s.events ++ e ∷ []
    pub left_is : after ≡ left_of lists to

module _ (lists : PortLists) where
  -- an event that is used up is the next one of its port
  pub used_next : (s t : Stand) (port : ℕ) (u : UsesAt lists s port t)
      → IsNextAt (left_of lists s) u.event (left_of lists t)
  used_next s t port u =
      let now = lists_of lists s.phase in
      let at : u.cursor + 1 ≡ suc u.cursor = omega arith in
      let moved : slice_set (cut s.cursors now) port (drop (suc u.cursor) u.list)
      ≡ cut (slice_set s.cursors port (u.cursor + 1)) now =
      cut_set s.cursors now port (suc u.cursor) u.list u.list_is
      ∙ ap (λ w. cut (slice_set s.cursors port w) now) (sym at) in
      record {
        port = port;
        at = u.at;
        lists = slice_set (cut s.cursors now) port (drop (suc u.cursor) u.list);
        next = record {
          rest = drop (suc u.cursor) u.list;
          begins = cut_begins s.cursors now port u.cursor u.list u.event u.cursor_is u.list_is
              u.event_is;
          left_is = refl;
        };
        after_is = ap (λ (w : Stand). left_of lists w) u.leads
            ∙ ap (λ w. record (left_of lists s) { now = w }) (sym moved);
      }

  -- so it can where it is the next one of its port
  pub can_use : (s : Stand) (port : ℕ) (e : Event) (after : Left) → IsAt port e
      → IsNextAt (left_of lists s) e after → CanUse lists s port e after
  can_use s port e after at n =
      let now = lists_of lists s.phase in
      let same : n.port ≡ port = one_port n.port port e n.at at in
      let begins : slice_get (cut s.cursors now) port ≡ Some (e ∷ n.next.rest) =
      subst (λ w. slice_get (cut s.cursors now) w ≡ Some (e ∷ n.next.rest)) same n.next.begins in
      let o = cut_at s.cursors now port e n.next.rest begins in
      let to : Stand = record {
        phase = s.phase;
        cursors = slice_set s.cursors port (o.at + 1);
        events = s.events ++ e ∷ [];
      } in
      let uses : UsesAt lists s port to = record {
        cursor = o.at;
        list = o.list;
        event = e;
        cursor_is = o.cursor_is;
        list_is = o.list_is;
        event_is = o.event_is;
        at = at;
        leads = refl;
      } in
      let one : o.at + 1 ≡ suc o.at = omega arith in
      let lists' : n.lists ≡ cut to.cursors now = n.next.left_is
      ∙ ap (λ w. slice_set (cut s.cursors now) w n.next.rest) same
      ∙ ap (λ w. slice_set (cut s.cursors now) port w) o.rest_is
      ∙ cut_set s.cursors now port (suc o.at) o.list o.list_is
      ∙ ap (λ w. cut (slice_set s.cursors port w) now) (sym one) in
      record {
        to = to;
        uses = uses;
        events_are = refl;
        left_is = n.after_is ∙ ap (λ w. record (left_of lists s) { now = w }) lists';
      }

-- TIME

-- the phases from a place on
later_are : (phases : List (List (List Event))) (times : List ℕ) (q : List (List Event))
    (qs : List (List (List Event))) → (all_left phases times).later ≡ q ∷ qs
    → (p : List (List Event)) × (phases ≡ p ∷ q ∷ qs)
later_are [] times q qs h = (let never : ⊥ = cc in absurd never)
later_are (p ∷ ps) times q qs h = (p, ap (λ w. p ∷ w) h)

pub times_are : (phases : List (List (List Event))) (times : List ℕ)
    → (all_left phases times).times ≡ times
times_are [] times = refl
times_are (p ∷ ps) times = refl

later_of : (phases : List (List (List Event))) (times : List ℕ) (p : List (List Event))
    (ps : List (List (List Event))) → phases ≡ p ∷ ps → (all_left phases times).later ≡ ps
later_of phases times p ps is = ap (λ w. (all_left w times).later) is

-- one more is dropped
drop_more : {X : Type 0} (xs : List X) (n : ℕ) (x : X) (ys : List X) → drop n xs ≡ x ∷ ys
    → drop (n + 1) xs ≡ ys
drop_more xs n x ys h =
    let one : n + 1 ≡ suc n = omega arith in
    ap (λ w. drop w xs) one ∙ sym (drop_item xs n x ys h).behind

-- something stands below the end
pub drop_some : {X : Type 0} (xs : List X) (n : ℕ) → n < length xs
    → (x : X) × (ys : List X) × (drop n xs ≡ x ∷ ys)
drop_some [] n lt = (let never : ⊥ = omega arith in absurd never)
drop_some (x ∷ xs) zero lt = (x, xs, refl)
drop_some (x ∷ xs) (suc n) lt = drop_some xs n (omega arith)

-- and nothing past it
pub drop_none : {X : Type 0} (xs : List X) (n : ℕ) → length xs ≤ n → drop n xs ≡ []
drop_none [] zero le = refl
drop_none [] (suc n) le = refl
drop_none (x ∷ xs) zero le = (let never : ⊥ = omega arith in absurd never)
drop_none (x ∷ xs) (suc n) le = drop_none xs n (omega arith)

-- what is left stands below the end
pub drop_below : {X : Type 0} (xs : List X) (n : ℕ) (x : X) (ys : List X) → drop n xs ≡ x ∷ ys
    → n < length xs
drop_below xs n x ys h = get_below xs n x (drop_item xs n x ys h).item

-- where two phases stand from a place on, there is one more behind it
two_below : {X : Type 0} (xs : List X) (n : ℕ) (x y : X) (ys : List X) → drop n xs ≡ x ∷ y ∷ ys
    → n + 1 < length xs
two_below xs n x y ys h = drop_below xs (n + 1) y ys (drop_more xs n x (y ∷ ys) h)

-- a time can be used up
pub record CanPass (lists : PortLists) (s : Stand) (units : ℕ) (after : Left) : Type 0 where
  pub to : Stand
  pub uses : UsesTime lists s to
  pub later : s.phase + 1 < length lists.phases
  pub units_is : slice_get lists.times s.phase ≡ Some units
  pub events_are : to.events ≡ s.events ++ event.Passes units ∷ []
  pub left_is : after ≡ left_of lists to

module _ (lists : PortLists) where
  -- a later phase at its start, of which nothing is used up
  started : (phase : ℕ) (q : List (List Event)) (qs : List (List (List Event))) (us : List ℕ)
      → drop phase lists.phases ≡ q ∷ qs → drop phase lists.times ≡ us
      → left_at lists phase (starts (lists_of lists phase))
      ≡ record { now = q; later = qs; times = us }
  started phase q qs us ps ts =
      let left : all_left (drop phase lists.phases) (drop phase lists.times)
      ≡ record { now = q; later = qs; times = us } =
      ap (λ w. all_left w (drop phase lists.times)) ps ∙ ap (λ w. all_left (q ∷ qs) w) ts in
      ap (λ (w : Left). record { now = cut (starts w.now) w.now; later = w.later; times = w.times })
      left
      ∙ ap (λ w. record { now = w; later = qs; times = us }) (cut_starts q)

  -- a time that is used up passes
  pub used_time : (s t : Stand) (u : UsesTime lists s t)
      → PassesNext (left_of lists s) u.units (left_of lists t)
  used_time s t u =
      let n = s.phase in
      let m = u.more in
      let here = drop_some lists.phases n (omega arith) in
      let rest : drop (n + 1) lists.phases ≡ here.1 =
      drop_more lists.phases n here.0 here.1 here.2 in
      let next = drop_some lists.phases (n + 1) m in
      let behind : here.1 ≡ next.0 ∷ next.1 = sym rest ∙ next.2 in
      let one : n + 1 ≡ suc n = omega arith in
      let units : drop n lists.times ≡ u.units ∷ drop (n + 1) lists.times =
      drop_begins lists.times n u.units u.units_is
      ∙ ap (λ w. u.units ∷ drop w lists.times) (sym one) in
      record {
        phase = next.0;
        phases = next.1;
        times = drop (n + 1) lists.times;
        used_up = subst (λ w. AreUsedUp (cut w (lists_of lists n))) (sym u.ended)
            (cut_ends (lists_of lists n));
        phases_are = later_of (drop n lists.phases) (drop n lists.times) here.0 here.1 here.2
            ∙ behind;
        times_are = times_are (drop n lists.phases) (drop n lists.times) ∙ units;
        after_is = ap (λ (w : Stand). left_of lists w) u.leads
            ∙ started (n + 1) next.0 next.1 (drop (n + 1) lists.times) next.2 refl;
      }

  -- so it can where it may pass
  pub can_pass : (s : Stand) (units : ℕ) (after : Left)
      → AreWithin s.cursors (lists_of lists s.phase) → PassesNext (left_of lists s) units after
      → CanPass lists s units after
  can_pass s units after within x =
      let n = s.phase in
      let now = lists_of lists n in
      let o = later_are (drop n lists.phases) (drop n lists.times) x.phase x.phases x.phases_are in
      let rest : drop (n + 1) lists.phases ≡ x.phase ∷ x.phases =
      drop_more lists.phases n o.0 (x.phase ∷ x.phases) o.1 in
      let times : drop n lists.times ≡ units ∷ x.times =
      sym (times_are (drop n lists.phases) (drop n lists.times)) ∙ x.times_are in
      let to : Stand = record {
        phase = n + 1;
        cursors = starts (lists_of lists (n + 1));
        events = s.events ++ event.Passes units ∷ [];
      } in
      let more = two_below lists.phases n o.0 x.phase x.phases o.1 in
      let units_is = (drop_item lists.times n units x.times times).item in
      let uses : UsesTime lists s to = record {
        units = units;
        ended = ended s.cursors now within x.used_up;
        more = more;
        units_is = units_is;
        leads = refl;
      } in
      record {
        to = to;
        uses = uses;
        later = more;
        units_is = units_is;
        events_are = refl;
        left_is = x.after_is ∙ sym (started (n + 1) x.phase x.phases x.times rest
            (drop_more lists.times n units x.times times));
      }

  -- WHAT WAS USED UP

  -- the cursors are within the lists
  within_uses : (s t : Stand) (u : Used) → AreWithin s.cursors (lists_of lists s.phase)
      → Uses lists s u t → AreWithin t.cursors (lists_of lists t.phase)
  within_uses s t (At port) w u =
      let lt = get_below u.list u.cursor u.event u.event_is in
      let there = within_set s.cursors (lists_of lists s.phase) port (u.cursor + 1) u.list w
      u.list_is (omega arith) in
      subst (λ (x : Stand). AreWithin x.cursors (lists_of lists x.phase)) (sym u.leads) there
  within_uses s t Time w u =
      subst (λ (x : Stand). AreWithin x.cursors (lists_of lists x.phase)) (sym u.leads)
      (within_starts (lists_of lists (s.phase + 1)))

  pub within_leads : (used : List Used) (t : Stand) → LeadsTo lists used t
      → AreWithin t.cursors (lists_of lists t.phase)
  within_leads [] t l =
      subst (λ (x : Stand). AreWithin x.cursors (lists_of lists x.phase)) (sym l)
      (within_starts (lists_of lists 0))
  within_leads (u ∷ used) t l = within_uses l.0 t u (within_leads used l.0 l.1) l.2

  -- a stand leads to one
  same_uses : (s t r : Stand) (u : Used) → Uses lists s u t → Uses lists s u r → t ≡ r
  same_uses s t r (At port) a b =
      let at : a.cursor ≡ b.cursor =
      (let h : Some a.cursor ≡ Some b.cursor = sym a.cursor_is ∙ b.cursor_is in cc) in
      let list : a.list ≡ b.list =
      (let h : Some a.list ≡ Some b.list = sym a.list_is ∙ b.list_is in cc) in
      let e : a.event ≡ b.event =
      (let h : Some a.event ≡ Some b.event = sym a.event_is
      ∙ ap (λ w. slice_get w a.cursor) list ∙ ap (λ w. slice_get b.list w) at ∙ b.event_is in cc) in
      a.leads ∙ ap (λ w. record {
        phase = s.phase;
        cursors = slice_set s.cursors port (w + 1);
        events = s.events ++ a.event ∷ [];
      }) at ∙ ap (λ w. record {
        phase = s.phase;
        cursors = slice_set s.cursors port (b.cursor + 1);
        events = s.events ++ w ∷ [];
      }) e ∙ sym b.leads
  same_uses s t r Time a b =
      let units : a.units ≡ b.units =
      (let h : Some a.units ≡ Some b.units = sym a.units_is ∙ b.units_is in cc) in
      a.leads ∙ ap (λ w. record {
        phase = s.phase + 1;
        cursors = starts (lists_of lists (s.phase + 1));
        events = s.events ++ event.Passes w ∷ [];
      }) units ∙ sym b.leads

  -- so what was used up leads to one stand
  pub one_stand : (used : List Used) (t r : Stand) → LeadsTo lists used t → LeadsTo lists used r
      → t ≡ r
  one_stand [] t r a b = a ∙ sym b
  one_stand (u ∷ used) t r a b =
      let same = one_stand used a.0 b.0 a.1 b.1 in
      same_uses b.0 t r u (subst (λ w. Uses lists w u t) same a.2) b.2

  -- what was used up before leads somewhere
  pub leads_before : (front used : List Used) (t : Stand) → LeadsTo lists (front ++ used) t
      → (s : Stand) × LeadsTo lists used s
  leads_before [] used t l = (t, l)
  leads_before (u ∷ front) used t l = leads_before front used l.0 l.1

  -- as many events were used up
  uses_one : (s t : Stand) (u : Used) → Uses lists s u t → length t.events ≡ length s.events + 1
  uses_one s t (At port) u =
      ap (λ (w : Stand). length w.events) u.leads ∙ length-append s.events (u.event ∷ [])
  uses_one s t Time u =
      ap (λ (w : Stand). length w.events) u.leads
      ∙ length-append s.events (event.Passes u.units ∷ [])

  pub leads_count : (used : List Used) (t : Stand) → LeadsTo lists used t
      → length t.events ≡ length used
  leads_count [] t l = ap (λ (w : Stand). length w.events) l
  leads_count (u ∷ used) t l =
      let n = leads_count used l.0 l.1 in
      let m = uses_one l.0 t u l.2 in
      omega arith

  -- USED UP

  -- what was used up leaves one thing, and is these events
  pub one_left : (used : List Used) (left other : Left) (events more : List Event)
      → HasUsedUp lists used left events → HasUsedUp lists used other more
      → (left ≡ other) × (events ≡ more)
  one_left used left other events more a b =
      let same = one_stand used a.stand b.stand a.leads b.leads in (
        a.left_is ∙ ap (λ (w : Stand). left_of lists w) same ∙ sym b.left_is,
        a.events_are ∙ ap (λ (w : Stand). w.events) same ∙ sym b.events_are,
      )

  -- as many events as were used up
  pub used_count : (used : List Used) (left : Left) (events : List Event)
      → HasUsedUp lists used left events → length events ≡ length used
  used_count used left events u = ap length u.events_are ∙ leads_count used u.stand u.leads
