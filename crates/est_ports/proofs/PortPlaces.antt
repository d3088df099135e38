-- A port run leads to one place.
use Rattle.std.proofs.Common.{◌≡◌, ℕ, List, [], ◌∷◌, ◌++◌, Some, refl, sym, ap, subst, ◌∙◌}
use Rattle.std.specs.Prelude.{slice_get, slice_set}
use Rattle.est_meaning.specs.mean_blocks.TextByPlace.{text_of}
use Rattle.est_meaning.proofs.Steps.{steps_unique}
use Rattle.est_meaning.specs.Run.{Setup, silent_after}
use Rattle.est_meaning.specs.mean_blocks.GlobalSituation.{Situation}
use Rattle.est_meaning.specs.declared.event.Event.{Event}
use Rattle.est_meaning.specs.declared.event.Event.TheVariants as event
use Rattle.est_meaning.specs.declared.firing.Firing.{Firing}
use Rattle.mean_ports.specs.declared.lists.PortLists.{PortLists}
use Rattle.mean_ports.specs.declared.moves.PortMove.{PortMove}
use Rattle.mean_ports.specs.declared.moves.PortMove.TheVariants.{TakeAt, Pass, Fire}
use Rattle.mean_ports.specs.Merges.{IsAt}
use Rattle.mean_ports.specs.PortRuns.{Left, IsNextAt, AreNext, none, more, PortPlace, MovesOn}
use Rattle.mean_ports.specs.PortRuns.{TakesAt, PassesOn, FiresOn, IsPortRun, IsPortStart}
use Rattle.mean_ports.specs.PortRuns.{all_left, after_outside}

-- WHAT IS LEFT

-- an event is at one port
at_one : (m n : ℕ) (e : Event) → IsAt m e → IsAt n e → m ≡ n
at_one m n (event.Arrives i) a b = sym a ∙ b
at_one m n (event.Leaves i) a b = sym a ∙ b
at_one m n (event.Passes units) a b = absurd a

rest_one : (now : List (List Event)) (m n : ℕ) (e f : Event) (xs ys : List Event) → m ≡ n
    → slice_get now m ≡ Some (e ∷ xs) → slice_get now n ≡ Some (f ∷ ys) → e ∷ xs ≡ f ∷ ys
rest_one now m n e f xs ys same a b =
    let c : Some (e ∷ xs) ≡ Some (f ∷ ys) = sym a ∙ ap (λ w. slice_get now w) same ∙ b in
    cc

-- what is left after the next event of a port is one
pub next_one : (left a b : Left) (e : Event) → IsNextAt left e a → IsNextAt left e b → a ≡ b
next_one left a b e x y =
    let same : x.port ≡ y.port = at_one x.port y.port e x.at y.at in
    let all : e ∷ x.next.rest ≡ e ∷ y.next.rest =
    rest_one left.now x.port y.port e e x.next.rest y.next.rest same x.next.begins y.next.begins in
    let rest : x.next.rest ≡ y.next.rest = cc in
    let lists : x.lists ≡ y.lists = x.next.left_is
    ∙ ap (λ w. slice_set left.now w x.next.rest) same
    ∙ ap (λ w. slice_set left.now y.port w) rest ∙ sym y.next.left_is in
    x.after_is ∙ ap (λ w. let l : Left = record left { now = w } in l) lists ∙ sym y.after_is

-- the first of events that are next ones, and the others
abbrev pub Opened : Left → List Event → Left → Type 0
Opened left [] after = after ≡ left
Opened left (e ∷ es) after = (middle : Left) × IsNextAt left e middle × AreNext middle es after

pub opened : (left : Left) (es : List Event) (after : Left) → AreNext left es after
    → Opened left es after
opened left es after none = refl
opened left es after (more {middle = middle} n a) = (middle, n, a)

-- what is left after several is one
pub all_next_one : (es : List Event) (left a b : Left) → AreNext left es a → AreNext left es b
    → a ≡ b
all_next_one [] left a b x y = opened left [] a x ∙ sym (opened left [] b y)
all_next_one (e ∷ es) left a b x y =
    let p = opened left (e ∷ es) a x in
    let q = opened left (e ∷ es) b y in
    let same : p.0 ≡ q.0 = next_one left p.0 q.0 e p.1 q.1 in
    all_next_one es q.0 a b (subst (λ w. AreNext w es a) same p.2) q.2

-- MOVES

arrival_one : (c : Setup) (p q r : PortPlace) (port : ℕ) → TakesAt c p port q → TakesAt c p port r
    → q ≡ r
arrival_one c p q r port a b =
    let ports : a.next.port ≡ b.next.port = sym a.next.at ∙ a.here ∙ sym b.here ∙ b.next.at in
    let all : event.Arrives a.interaction ∷ a.next.next.rest
    ≡ event.Arrives b.interaction ∷ b.next.next.rest =
    rest_one p.left.now a.next.port b.next.port (event.Arrives a.interaction)
    (event.Arrives b.interaction) a.next.next.rest b.next.next.rest ports a.next.next.begins
    b.next.next.begins in
    let e : event.Arrives a.interaction ≡ event.Arrives b.interaction = cc in
    let left : a.left ≡ b.left = next_one p.left a.left b.left (event.Arrives b.interaction)
    (subst (λ w. IsNextAt p.left w a.left) e a.next) b.next in
    a.leads ∙ ap (λ w. after_outside c p w a.left) e
    ∙ ap (λ w. after_outside c p (event.Arrives b.interaction) w) left ∙ sym b.leads

-- with what is left after a time
abbrev LeftWith : List (List Event) → List (List (List Event)) → List ℕ → Left
LeftWith phase phases times = record { now = phase; later = phases; times = times }

time_one : (c : Setup) (p q r : PortPlace) → PassesOn c p q → PassesOn c p r → q ≡ r
time_one c p q r a b =
    let phases : a.phase ∷ a.phases ≡ b.phase ∷ b.phases = sym a.phases_are ∙ b.phases_are in
    let times : a.units ∷ a.times ≡ b.units ∷ b.times = sym a.times_are ∙ b.times_are in
    let n : a.phase ≡ b.phase = cc in
    let l : a.phases ≡ b.phases = cc in
    let u : a.units ≡ b.units = cc in
    let t : a.times ≡ b.times = cc in
    a.leads
    ∙ ap (λ w. after_outside c p (event.Passes w) (LeftWith a.phase a.phases a.times)) u
    ∙ ap (λ w. after_outside c p (event.Passes b.units) (LeftWith w a.phases a.times)) n
    ∙ ap (λ w. after_outside c p (event.Passes b.units) (LeftWith b.phase w a.times)) l
    ∙ ap (λ w. after_outside c p (event.Passes b.units) (LeftWith b.phase b.phases w)) t
    ∙ sym b.leads

-- where a firing leads
abbrev pub fired_to : PortPlace → Situation → List Event → Left → PortPlace
fired_to p s outs left = record {
  situation = s;
  events = p.events ++ outs;
  left = left;
  silent_in_row = silent_after p.silent_in_row outs;
}

firing_one : (c : Setup) (p q r : PortPlace) (f : Firing) → FiresOn c p f q → FiresOn c p f r
    → q ≡ r
firing_one c p q r f a b =
    let e = steps_unique c.limit (text_of c.spec) p.situation f a.situation b.situation a.outs
    b.outs a.step b.step in
    let outs : a.outs ≡ b.outs = e.1 in
    let left : a.left ≡ b.left = all_next_one b.outs p.left a.left b.left
    (subst (λ w. AreNext p.left w a.left) outs a.next) b.next in
    a.leads ∙ ap (λ w. fired_to p w a.outs a.left) e.0 ∙ ap (λ w. fired_to p b.situation w a.left)
    outs
    ∙ ap (λ w. fired_to p b.situation b.outs w) left ∙ sym b.leads

pub move_one : (c : Setup) (p : PortPlace) (m : PortMove) (q r : PortPlace) → MovesOn c p m q
    → MovesOn c p m r → q ≡ r
move_one c p (TakeAt port) q r a b = arrival_one c p q r port a b
move_one c p Pass q r a b = time_one c p q r a b
move_one c p (Fire f) q r a b = firing_one c p q r f a b

-- RUNS

start_one : (c : Setup) (lists : PortLists) (p q : PortPlace) → IsPortStart c lists p
    → IsPortStart c lists q → p ≡ q
start_one c lists p q a b =
    let left : a.left ≡ b.left =
    all_next_one c.start_outs (all_left lists.phases lists.times) a.left b.left a.next b.next in
    a.place_is ∙ ap (λ w. let p : PortPlace = record {
      situation = c.start;
      events = c.start_outs;
      left = w;
      silent_in_row = 0;
    } in p) left ∙ sym b.place_is

-- a port run leads to one place
pub one_port_place : (c : Setup) (lists : PortLists) (run : List PortMove) (p q : PortPlace)
    → IsPortRun c lists run p → IsPortRun c lists run q → p ≡ q
one_port_place c lists [] p q a b = start_one c lists p q a b
one_port_place c lists (m ∷ h) p q a b =
    let e : a.0 ≡ b.0 = one_port_place c lists h a.0 b.0 a.1 b.1 in
    move_one c b.0 m p q (subst (λ w. MovesOn c w m p) e a.2) b.2
