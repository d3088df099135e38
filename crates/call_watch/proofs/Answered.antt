-- Answers to events that are given one after the other.
use Rattle.std.proofs.Common.{◌≡◌, ℕ, ◌+◌, List, [], ◌∷◌, ◌++◌, length, Option, Some, None}
use Rattle.std.proofs.Common.{Result, Ok, Err, refl, sym, ap, subst, ◌∙◌, append_assoc}
use Rattle.std.proofs.lemmas.List.{append-nil}
use Rattle.std.specs.Result.{IsErrAnd}
use Rattle.est_meaning.specs.declared.event.Event.{Event}
use Rattle.mean_watch.specs.declared.watched.Watched.{Watched}
use Rattle.mean_watch.specs.declared.watched.Watched.TheVariants.{Possible, Impossible}
use Rattle.mean_watch.specs.declared.watched.Watched.TheVariants.{OverFirings, OverAction}
use Rattle.mean_watch.specs.Watching.{IsWatched, IsFinished}
use Rattle.call_files.specs.Pieces.{appended, IsPrefix}
use Rattle.call_files.specs.declared.status.Status.{Status}
use Rattle.call_watch.specs.Answers.{Watch, Standing, Next, goes_on, ended, AreAnswered, all_given}
use Rattle.call_watch.specs.Answers.{one_given, one_ends, possible_line, event_line, finish_line}
use Rattle.call_watch.specs.declared.answering.Went.{Went}
use Rattle.call_watch.specs.declared.answering.Went.TheVariants.{On, Ended}
use Rattle.call_watch.specs.declared.answering.Cut.{Cut}
use Rattle.call_watch.specs.declared.answering.Cut.TheVariants.{Unwritten, OutOfMemory}
use Rattle.call_watch.specs.inside.Work.{AreBegun, AreGiven, went_by, next_of, after_events, IsPut}
use Rattle.call_watch.specs.inside.Work.{IsEnded}

-- PIECES

-- nothing more is appended
pub appended_none : (old : Option (List ℕ)) → appended old [] ≡ old
appended_none None = refl
appended_none (Some bytes) = ap (λ (bs : List ℕ). Some bs) (append-nil bytes)

-- EVENTS

-- answers to events, and then to those after them
pub answered_then : (w : Watch) (given events more : List Event) (s : Standing) (next : Next)
    (out rest : List ℕ) → AreAnswered w given events (goes_on s) out
    → AreAnswered w s.given more next rest
    → AreAnswered w given (events ++ more) next (out ++ rest)
answered_then w _ _ more _ next _ rest (all_given given) b = b
answered_then w _ _ more s next _ rest (one_given given events e _ out right a) b =
    subst (AreAnswered w given (e ∷ events ++ more) next)
    (sym (append_assoc (possible_line (length given + 1)) out rest))
    (one_given given (events ++ more) e next (out ++ rest) right
    (answered_then w (given ++ e ∷ []) events more s next out rest a b))

-- where the call ends no event after it is looked at
pub answered_end : (w : Watch) (given events more : List Event) (with : Status) (out : List ℕ)
    → AreAnswered w given events (ended with) out
    → AreAnswered w given (events ++ more) (ended with) out
answered_end w _ _ more with _ (one_given given events e _ out right a) =
    one_given given (events ++ more) e (ended with) out right
    (answered_end w (given ++ e ∷ []) events more with out a)
answered_end w _ _ more _ _ (one_ends given events e answer other right) =
    one_ends given (events ++ more) e answer other right

-- the answer to one event is the answer to it alone
pub one_answered : (w : Watch) (given : List Event) (e : Event) (answer : Watched)
    → IsWatched w.setup w.budget (given ++ e ∷ []) answer
    → AreAnswered w given (e ∷ []) (next_of (went_by answer) (after_events (given ++ e ∷ [])))
    (event_line w (length given + 1) answer)
one_answered w given e Possible right =
    subst (AreAnswered w given (e ∷ []) (goes_on (after_events (given ++ e ∷ []))))
    (append-nil (possible_line (length given + 1)))
    (one_given given [] e (goes_on (after_events (given ++ e ∷ []))) [] right
    (all_given (given ++ e ∷ [])))
one_answered w given e Impossible right = one_ends given [] e Impossible (λ h. cc) right
one_answered w given e OverFirings right = one_ends given [] e OverFirings (λ h. cc) right
one_answered w given e OverAction right = one_ends given [] e OverAction (λ h. cc) right

-- no event was given, and nothing is written
pub none_begun : (w : Watch) (given events : List Event) → AreBegun w given events []
none_begun w given events = record {
  first = [];
  rest = events;
  events_are = refl;
  next = goes_on (after_events given);
  left = [];
  answered = all_given given;
}

-- all are answered, and a front part of the answers is written
pub part_begun : (w : Watch) (given events : List Event) (next : Next) (out part : List ℕ)
    → AreAnswered w given events next out → IsPrefix part out → AreBegun w given events part
part_begun w given events next out part a p = record {
  first = events;
  rest = [];
  events_are = sym (append-nil events);
  next = next;
  left = p.0;
  answered = subst (AreAnswered w given events next) p.1 a;
}

-- some are answered, and then a part of the answers to those after them is written
pub begun_then : (w : Watch) (given events more : List Event) (s : Standing) (out part : List ℕ)
    → AreAnswered w given events (goes_on s) out → AreBegun w s.given more part
    → AreBegun w given (events ++ more) (out ++ part)
begun_then w given events more s out part a b = record {
  first = events ++ b.first;
  rest = b.rest;
  events_are = ap (λ (xs : List Event). events ++ xs) b.events_are
      ∙ sym (append_assoc events b.first b.rest);
  next = b.next;
  left = b.left;
  answered = subst (AreAnswered w given (events ++ b.first) b.next)
      (sym (append_assoc out part b.left))
      (answered_then w given events b.first s b.next out (part ++ b.left) a b.answered);
}

-- what is begun of some events is begun of these and more
pub begun_more : (w : Watch) (given events more : List Event) (part : List ℕ)
    → AreBegun w given events part → AreBegun w given (events ++ more) part
begun_more w given events more part b = record {
  first = b.first;
  rest = b.rest ++ more;
  events_are = ap (λ (xs : List Event). xs ++ more) b.events_are
      ∙ append_assoc b.first b.rest more;
  next = b.next;
  left = b.left;
  answered = b.answered;
}

-- WHAT IS WRITTEN

-- two pieces are appended
pub appended_twice : (old : Option (List ℕ)) (xs ys : List ℕ)
    → appended (appended old xs) ys ≡ appended old (xs ++ ys)
appended_twice None xs ys = refl
appended_twice (Some bytes) xs ys = ap (λ (bs : List ℕ). Some bs) (append_assoc bytes xs ys)

-- ONE EVENT

-- its answer was to be written
pub one_put : (w : Watch) (given : List Event) (e : Event) (answer : Watched) (text : List ℕ)
    (before after : Option (List ℕ)) → IsWatched w.setup w.budget (given ++ e ∷ []) answer
    → text ≡ event_line w (length given + 1) answer → after ≡ appended before text
    → AreGiven w given (e ∷ []) (after_events (given ++ e ∷ [])) (Ok (went_by answer)) before after
one_put w given e answer text before after right same put = (
  event_line w (length given + 1) answer,
  one_answered w given e answer right,
  put ∙ ap (λ (line : List ℕ). appended before line) same,
)

-- it was not
pub one_cut : (w : Watch) (given : List Event) (e : Event) (s : Standing) (cut : Cut)
    (before after : Option (List ℕ)) → after ≡ before
    → AreGiven w given (e ∷ []) s (Err cut) before after
one_cut w given e s cut before after same =
    ([], none_begun w given (e ∷ []), same ∙ sym (appended_none before))

-- its answer was written in part, or not
pub one_cut_off : (w : Watch) (given : List Event) (e : Event) (answer : Watched) (text : List ℕ)
    (s : Standing) (cut : Cut) (before after : Option (List ℕ))
    → IsWatched w.setup w.budget (given ++ e ∷ []) answer
    → text ≡ event_line w (length given + 1) answer → IsPut {A = Unit {0}} text (Err cut) before after
    → AreGiven w given (e ∷ []) s (Err cut) before after
one_cut_off w given e answer text s Unwritten before after right same put = (
  put.0,
  part_begun w given (e ∷ []) (next_of (went_by answer) (after_events (given ++ e ∷ []))) text
      put.0 (subst (AreAnswered w given (e ∷ [])
      (next_of (went_by answer) (after_events (given ++ e ∷ [])))) (sym same)
      (one_answered w given e answer right)) put.1,
  put.2,
)
one_cut_off w given e answer text s OutOfMemory before after right same put =
    one_cut w given e s OutOfMemory before after put

-- memory ran out before its answer was to be written
pub one_spent : (w : Watch) (given : List Event) (e : Event) (s : Standing) (r : Result Went Cut)
    (before : Option (List ℕ)) → IsErrAnd r (λ cut. cut ≡ OutOfMemory)
    → AreGiven w given (e ∷ []) s r before before
one_spent w given e s (Ok went) before h = absurd h
one_spent w given e s (Err cut) before h = one_cut w given e s cut before before refl

-- the call was cut off where its answer was to be written
pub one_unwritten : (w : Watch) (given : List Event) (e : Event) (answer : Watched) (text : List ℕ)
    (s : Standing) (cut : Cut) (r : Result Went Cut) (before after : Option (List ℕ))
    → IsWatched w.setup w.budget (given ++ e ∷ []) answer
    → text ≡ event_line w (length given + 1) answer
    → IsPut {A = Unit {0}} text (Err cut) before after → IsErrAnd r (λ x. x ≡ cut)
    → AreGiven w given (e ∷ []) s r before after
one_unwritten w given e answer text s cut (Ok went) before after right same put h = absurd h
one_unwritten w given e answer text s cut (Err x) before after right same put h =
    subst (λ (y : Cut). AreGiven w given (e ∷ []) s (Err y) before after) (sym h)
    (one_cut_off w given e answer text s cut before after right same put)

-- its answer is written
pub one_written : (w : Watch) (given now : List Event) (e : Event) (answer : Watched) (went : Went)
    (text : List ℕ) (before after : Option (List ℕ))
    → IsWatched w.setup w.budget (given ++ e ∷ []) answer
    → text ≡ event_line w (length given + 1) answer → now ≡ given ++ e ∷ []
    → went ≡ went_by answer → after ≡ appended before text
    → AreGiven w given (e ∷ []) (after_events now) (Ok went) before after
one_written w given now e answer went text before after right same is by put =
    subst (λ (x : Went). AreGiven w given (e ∷ []) (after_events now) (Ok x) before after) (sym by)
    (subst (λ (es : List Event). AreGiven w given (e ∷ []) (after_events es) (Ok (went_by answer))
    before after) (sym is) (one_put w given e answer text before after right same put))

-- THE END

-- the answer at the end was to be written
pub end_cut : (w : Watch) (given : List Event) (answer : Watched) (text : List ℕ) (cut : Cut)
    (r : Result Went Cut) (before after : Option (List ℕ))
    → IsFinished w.setup w.budget given answer → text ≡ finish_line w (length given) answer
    → IsPut {A = Unit {0}} text (Err cut) before after → IsErrAnd r (λ x. x ≡ cut)
    → IsEnded w given r before after
end_cut w given answer text cut (Ok went) before after right same put h = absurd h
end_cut w given answer text cut (Err x) before after right same put h =
    subst (λ (y : Cut). IsEnded w given (Err y) before after) (sym h) (of_cut cut put)
  where
    of_cut : (y : Cut) → IsPut {A = Unit {0}} text (Err y) before after
        → IsEnded w given (Err y) before after
    of_cut Unwritten p = (answer, right, p.0, subst (IsPrefix p.0) same p.1, p.2)
    of_cut OutOfMemory p = p

-- ALL EVENTS

-- so many were given, and all answers to them are written
pub record AreSoFar (w : Watch) (given events now : List Event) (before after : Option (List ℕ))
    : Type 0 where
  pub out : List ℕ
  pub answered : AreAnswered w given events (goes_on (after_events now)) out
  pub written : after ≡ appended before out

pub none_so_far : (w : Watch) (given : List Event) (before : Option (List ℕ))
    → AreSoFar w given [] given before before
none_so_far w given before =
    record { out = []; answered = all_given given; written = sym (appended_none before) }

-- one event more
pub more_so_far : (w : Watch) (given events now next : List Event) (e : Event)
    (before middle after : Option (List ℕ)) → AreSoFar w given events now before middle
    → AreGiven w now (e ∷ []) (after_events next) (Ok On) middle after
    → AreSoFar w given (events ++ e ∷ []) next before after
more_so_far w given events now next e before middle after s g = record {
  out = s.out ++ g.0;
  answered = answered_then w given events (e ∷ []) (after_events now) (goes_on (after_events next))
      s.out g.0 s.answered g.1;
  written = g.2 ∙ ap (λ (o : Option (List ℕ)). appended o g.0) s.written
      ∙ appended_twice before s.out g.0;
}

-- the call ends at one event more, and those after it are not looked at
pub ends_so_far : (w : Watch) (given events now : List Event) (s t : Standing) (e : Event)
    (more : List Event) (with : Status) (before middle after : Option (List ℕ))
    → AreSoFar w given events now before middle
    → AreGiven w now (e ∷ []) s (Ok (Ended with)) middle after
    → AreGiven w given (events ++ e ∷ more) t (Ok (Ended with)) before after
ends_so_far w given events now s t e more with before middle after a g = (
  a.out ++ g.0,
  answered_then w given events (e ∷ more) (after_events now) (ended with) a.out g.0 a.answered
      (answered_end w now (e ∷ []) more with g.0 g.1),
  g.2 ∙ ap (λ (o : Option (List ℕ)). appended o g.0) a.written
      ∙ appended_twice before a.out g.0,
)

-- it is cut off at one event more
pub cut_so_far : (w : Watch) (given events now : List Event) (s t : Standing) (e : Event)
    (more : List Event) (cut : Cut) (before middle after : Option (List ℕ))
    → AreSoFar w given events now before middle
    → AreGiven w now (e ∷ []) s (Err cut) middle after
    → AreGiven w given (events ++ e ∷ more) t (Err cut) before after
cut_so_far w given events now s t e more cut before middle after a g = (
  a.out ++ g.0,
  begun_then w given events (e ∷ more) (after_events now) a.out g.0 a.answered
      (begun_more w now (e ∷ []) more g.0 g.1),
  g.2 ∙ ap (λ (o : Option (List ℕ)). appended o g.0) a.written
      ∙ appended_twice before a.out g.0,
)

-- all were given
pub all_so_far : (w : Watch) (given events now : List Event) (before after : Option (List ℕ))
    → AreSoFar w given events now before after
    → AreGiven w given events (after_events now) (Ok On) before after
all_so_far w given events now before after a = (a.out, a.answered, a.written)

-- the same two, of a result and of all events
pub stop_so_far : (w : Watch) (given events now : List Event) (s t : Standing) (e : Event)
    (more all : List Event) (went : Went) (with : Status) (before middle after : Option (List ℕ))
    → AreSoFar w given events now before middle → AreGiven w now (e ∷ []) s (Ok went) middle after
    → went ≡ Ended with → events ++ e ∷ more ≡ all → AreGiven w given all t (Ok went) before after
stop_so_far w given events now s t e more all went with before middle after a g is same =
    subst (λ (es : List Event). AreGiven w given es t (Ok went) before after) same
    (subst (λ (x : Went). AreGiven w given (events ++ e ∷ more) t (Ok x) before after) (sym is)
    (ends_so_far w given events now s t e more with before middle after a
    (subst (λ (x : Went). AreGiven w now (e ∷ []) s (Ok x) middle after) is g)))

pub cut_off_so_far : (w : Watch) (given events now : List Event) (s t : Standing) (e : Event)
    (more all : List Event) (cut : Cut) (r : Result Went Cut) (before middle after : Option (List ℕ))
    → AreSoFar w given events now before middle → AreGiven w now (e ∷ []) s (Err cut) middle after
    → IsErrAnd r (λ x. x ≡ cut) → events ++ e ∷ more ≡ all → AreGiven w given all t r before after
cut_off_so_far w given events now s t e more all cut (Ok went) before middle after a g h same =
    absurd h
cut_off_so_far w given events now s t e more all cut (Err x) before middle after a g h same =
    subst (λ (es : List Event). AreGiven w given es t (Err x) before after) same
    (subst (λ (y : Cut). AreGiven w given (events ++ e ∷ more) t (Err y) before after) (sym h)
    (cut_so_far w given events now s t e more cut before middle after a g))
