-- Trials behind some events stay trials behind more, and at the end they are those of the trace.
use Rattle.std.proofs.Common.{◌≡◌, ◌≤◌, List, [], ◌∷◌, ◌++◌, length}
use Rattle.std.proofs.Common.{take, map, refl, sym, ap, subst, ◌∙◌, append_assoc, arith}
use Rattle.std.proofs.lemmas.List.{length-append}
use Rattle.std.proofs.Math.Seq.{take-length}
use Rattle.est_meaning.specs.declared.event.Event.{Event}
use Rattle.est_meaning.specs.declared.trace.Expected.TheVariants.{Known}
use Rattle.est_meaning.specs.Agreement.{AgreeAll}
use Rattle.est_meaning.specs.declared.run.Move.{Move}
use Rattle.est_meaning.specs.declared.run.Move.TheVariants.{Take, Fire}
use Rattle.est_meaning.specs.Run.{Setup, Place, Moves, IsBoundedRun, Follows}
use Rattle.est_meaning.specs.Trials.{IsTrial, IsInner}
use Rattle.est_meaning.proofs.AgreementLaws.{agree_length, first_taken}
use Rattle.mean_watch.specs.Watching.{so_far, IsBehind, IsWatchTrial}
use Rattle.mean_watch.specs.WatchLaws.{TrialsGrow}

pub known_joined : (es more : List Event) → map Known (es ++ more) ≡ map Known es ++ map Known more
known_joined [] more = refl
known_joined (e ∷ es) more = ap (λ xs. Known e ∷ xs) (known_joined es more)

pub known_length : (es : List Event) → length (map Known es) ≡ length es
known_length [] = refl
known_length (e ∷ es) = (let n = known_length es in omega arith)

-- a move along some events is one along more
grown_move : (c : Setup) (events more : List Event) (p : Place) (m : Move) (q : Place)
    → Moves (so_far c events) p m q → Moves (so_far c (events ++ more)) p m q
grown_move c events more p Take q t = record {
  event = t.event;
  front = t.front;
  rest = t.rest ++ map Known more;
  outside = t.outside;
  agree = t.agree;
  next = known_joined events more ∙ ap (λ xs. xs ++ map Known more) t.next
      ∙ append_assoc t.front (Known t.event ∷ t.rest) (map Known more);
  leads = t.leads;
}
grown_move c events more p (Fire f) q t = record {
  situation = t.situation;
  outs = t.outs;
  step = t.step;
  leads = t.leads;
}

pub grown_run : (c : Setup) (events more : List Event) (run : List Move) (p : Place)
    → IsBoundedRun (so_far c events) run p → IsBoundedRun (so_far c (events ++ more)) run p
grown_run c events more [] p r = r
grown_run c events more (m ∷ run) p r =
    (r.0, grown_run c events more run r.0 r.1, grown_move c events more r.0 m p r.2, r.3)

pub grown_follows : (c : Setup) (events more : List Event) (p : Place) → Follows (so_far c events) p
    → Follows (so_far c (events ++ more)) p
grown_follows c events more p f = record {
  front = f.front;
  rest = f.rest ++ map Known more;
  split = known_joined events more ∙ ap (λ xs. xs ++ map Known more) f.split
      ∙ append_assoc f.front f.rest (map Known more);
  agree = f.agree;
}

pub grown_behind : (c : Setup) (events more : List Event) (run : List Move) (p : Place)
    → IsBehind c events run p → IsBehind c (events ++ more) run p
grown_behind c events more run p b = record {
  is_run = grown_run c events more run p b.is_run;
  fewer = (let w = b.fewer in let n = length-append events more in omega arith);
  follows = grown_follows c events more p b.follows;
}

-- behind is inner: the events are not all there
pub inner_of : (c : Setup) (events : List Event) (run : List Move) (p : Place)
    → IsBehind c events run p → IsInner (so_far c events) run p
inner_of c events run p b = record {
  is_run = b.is_run;
  follows = b.follows;
  unfinished = λ w.
      let n : length p.events ≡ length (map Known events) = agree_length (map Known events) p.events w.events in
      let m : length (map Known events) ≡ length events = known_length events in
      let f = b.fewer in
      omega arith;
}

-- inner is behind: with as many events the run would explain them, since the trace does not end quiet
pub behind_of : (c : Setup) (events : List Event) (run : List Move) (p : Place)
    → IsInner (so_far c events) run p → IsBehind c events run p
behind_of c events run p i =
    let t = first_taken (map Known events) p.events i.follows in
    let m : length (map Known events) ≡ length events = known_length events in
    let few : length p.events ≤ length events = (let w = t.0 in omega arith) in
    let not_all : length p.events ≡ length events → ⊥ = λ e.
    i.unfinished (record {
      events = subst (λ xs. AgreeAll xs p.events)
          (ap (λ n. take n (map Known events)) (e ∙ sym m) ∙ take-length (map Known events)) t.1;
      quiet = λ q. (let never : ⊥ = cc in absurd never);
    }) in
    record { is_run = i.is_run; fewer = omega (arith, not_all); follows = i.follows }

grown_trial : (c : Setup) (events more : List Event) (x : List Move) → IsWatchTrial c events x
    → IsWatchTrial c (events ++ more) x
grown_trial c events more [] t = absurd t
grown_trial c events more (Take ∷ run) t = absurd t
grown_trial c events more (Fire f ∷ run) t = (t.0, grown_behind c events more run t.0 t.1, t.2)

last_trial : (c : Setup) (events : List Event) (x : List Move) → IsWatchTrial c events x
    → IsTrial (so_far c events) x
last_trial c events [] t = absurd t
last_trial c events (Take ∷ run) t = absurd t
last_trial c events (Fire f ∷ run) t = (t.0, inner_of c events run t.0 t.1, t.2)

all_trials : (c : Setup) (events : List Event) (x : List Move) → IsTrial (so_far c events) x
    → IsWatchTrial c events x
all_trials c events [] t = absurd t
all_trials c events (Take ∷ run) t = absurd t
all_trials c events (Fire f ∷ run) t = (t.0, behind_of c events run t.0 t.1, t.2)

pub trials_grow : TrialsGrow
trials_grow = record { grow = grown_trial; last = last_trial; all = all_trials }
