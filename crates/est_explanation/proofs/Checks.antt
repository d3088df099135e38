-- Laws of the checks of a replay.
use Rattle.std.proofs.Common.{◌≡◌, ◌≤◌, ◌+◌, ◌⊎◌, ℕ, List, [], ◌∷◌, ◌++◌, length, take, drop}
use Rattle.std.proofs.Common.{reverse, refl, sym, ap, subst, ◌∙◌, inl, inr, append_assoc, arith}
use Rattle.std.proofs.lemmas.List.{append-nil, take-append-drop, reverse-append}
use Rattle.std.proofs.lemmas.List.{reverse-reverse, length-reverse}
use Rattle.est_syntax.specs.declared.specification.Spec.{Spec}
use Rattle.est_meaning.specs.mean_blocks.Outcome.{Done, Fault, Limit}
use Rattle.est_meaning.specs.mean_blocks.TextByPlace.{text_of}
use Rattle.est_meaning.specs.declared.event.Event.{Event}
use Rattle.est_meaning.specs.declared.firing.Firing.{Firing}
use Rattle.est_meaning.specs.Agreement.{AgreeFirst}
use Rattle.est_meaning.specs.RecordedTraces.{Recorded}
use Rattle.est_meaning.specs.TransitionSelection.{IsSettled, IsPossible}
use Rattle.est_meaning.specs.FiringSteps.{outcome, start_of}
use Rattle.est_meaning.proofs.Steps.{possible_settled}
use Rattle.est_meaning.specs.declared.run.Move.{Move}
use Rattle.est_meaning.specs.declared.run.Move.TheVariants.{Take, Fire}
use Rattle.est_meaning.specs.Run.{Setup, Place, first_place, after_firing, Fires}
use Rattle.est_meaning.specs.Run.{Moves, IsBoundedRun, Follows, FollowsBefore, Yields}
use Rattle.est_meaning.proofs.AgreementLaws.{so_many_first, first_shorter}
use Rattle.est_meaning.proofs.StackLaws.{FiringOutcome, done, limit_done, fault_done}
use Rattle.est_meaning.proofs.RunLaws.{Grows, follows_grows, moves_one, one_place, explains_follows}
use Rattle.est_explanation.specs.declared.verdict.Why.{Why}
use Rattle.est_explanation.specs.declared.verdict.Why.TheVariants as why
use Rattle.est_explanation.specs.declared.verdict.Replayed.{Replayed}
use Rattle.est_explanation.specs.declared.verdict.Replayed.TheVariants.{Confirmed, Rejected}
use Rattle.est_explanation.specs.Replay.{AgreesSoFar, FiringFails, MoveFails}
use Rattle.est_explanation.specs.Replay.{IsPassed, IsAnswer, AnswersFrom, OneAnswer}

-- AGREEING

-- a place that follows the trace agrees with it, whatever moves are left
pub follows_agrees : (c : Setup) (claim : ℕ) (left : List Move) (p : Place) → Follows c p
    → AgreesSoFar c claim left p
follows_agrees c claim [] p f =
    first_shorter c.trace.events (take claim p.events) (drop claim p.events)
    (subst (λ w. AgreeFirst c.trace.events w) (sym (take-append-drop claim p.events)) f)
follows_agrees c claim (m ∷ left) p f = f

-- FAILING AND PASSING

-- the move passes every check
pub record Passes (c : Setup) (agrees : Place → Type 0) (p : Place) (m : Move) (q : Place) : Type 0
  where
    pub moves : Moves c p m q
    pub bounded : q.silent_in_row ≤ c.silent
    pub agreed : agrees q

fires_done : (c : Setup) (p : Place) (f : Firing) (q : Place) (t : Fires c p f q)
    (o : FiringOutcome) → outcome c.limit (text_of c.spec) p.situation f ≡ o
    → done t.outs t.situation ≡ o
fires_done c p f q t o e = sym t.step.done ∙ e

-- a firing that leads somewhere fails by its events or its silence alone
firing_passes : (c : Setup) (agrees : Place → Type 0) (p : Place) (f : Firing) (q : Place) (w : Why)
    → Passes c agrees p (Fire f) q → FiringFails c agrees p f w → ⊥
firing_passes c agrees p f q why.Limit t fails =
    elim fails [
      | inl unsettled ↦ unsettled (possible_settled c.limit (text_of c.spec) p.situation f
          t.moves.step.possible)
      | inr passed ↦ limit_done t.moves.situation t.moves.outs
          (sym (fires_done c p f q t.moves Limit passed.1))
    ]
firing_passes c agrees p f q why.NotOffered t fails = fails.1 t.moves.step.possible
firing_passes c agrees p f q (why.Fault g) t fails = fault_done g t.moves.situation t.moves.outs
    (sym (fires_done c p f q t.moves (Fault g) fails.1))
firing_passes c agrees p f q why.WrongOutput t fails =
    let e : q ≡ fails.0 = moves_one c p (Fire f) q fails.0 t.moves fails.1 in
    fails.2 (subst agrees e t.agreed)
firing_passes c agrees p f q why.TooSilent t fails =
    let e : q ≡ fails.0 = moves_one c p (Fire f) q fails.0 t.moves fails.1 in
    let row : q.silent_in_row ≡ fails.0.silent_in_row = ap (λ (x : Place). x.silent_in_row) e in
    let few = t.bounded in
    let many = fails.3 in
    absurd (omega arith)
firing_passes c agrees p f q (why.NoStart g) t fails = fails
firing_passes c agrees p f q why.NoEvent t fails = fails
firing_passes c agrees p f q why.NotAll t fails = fails

-- a move that passes every check fails none
pub passes_not_fails : (c : Setup) (agrees : Place → Type 0) (p : Place) (m : Move) (q : Place)
    (w : Why) → Passes c agrees p m q → MoveFails c agrees p m w → ⊥
passes_not_fails c agrees p Take q w t fails = fails.1 q t.moves
passes_not_fails c agrees p (Fire f) q w t fails = firing_passes c agrees p f q w t fails

-- ONE CHECK FAILS FIRST

-- what fails after a block's outcome
abbrev pub FailsBehind : (Place → Type 0) → Place → Why → FiringOutcome → Type 0
FailsBehind agrees p w (Done outs s) = ((w ≡ why.WrongOutput) × (agrees (after_firing p s outs)
    → ⊥)) ⊎ ((w ≡ why.TooSilent) × agrees (after_firing p s outs))
FailsBehind agrees p w (Fault g) = w ≡ why.Fault g
FailsBehind agrees p w Limit = w ≡ why.Limit

-- how far a firing comes before it fails
pub data Stage (c : Setup) (agrees : Place → Type 0) (p : Place) (f : Firing) (w : Why) : Type 0
  where
    unsettled : (IsSettled c.limit (text_of c.spec) p.situation → ⊥) → w ≡ why.Limit
        → Stage c agrees p f w
    impossible : IsSettled c.limit (text_of c.spec) p.situation
        → (IsPossible c.limit (text_of c.spec) p.situation f → ⊥) → w ≡ why.NotOffered
        → Stage c agrees p f w
    tried : IsPossible c.limit (text_of c.spec) p.situation f
        → FailsBehind agrees p w (outcome c.limit (text_of c.spec) p.situation f)
        → Stage c agrees p f w

tried_with : (c : Setup) (agrees : Place → Type 0) (p : Place) (f : Firing) (w : Why)
    (o : FiringOutcome) → IsPossible c.limit (text_of c.spec) p.situation f
    → outcome c.limit (text_of c.spec) p.situation f ≡ o → FailsBehind agrees p w o
    → Stage c agrees p f w
tried_with c agrees p f w o possible e h = tried possible (subst (FailsBehind agrees p w) (sym e) h)

stage_of : (c : Setup) (agrees : Place → Type 0) (p : Place) (f : Firing) (w : Why)
    → FiringFails c agrees p f w → Stage c agrees p f w
stage_of c agrees p f why.Limit fails =
    elim fails [
      | inl off ↦ unsettled off refl
      | inr passed ↦ tried_with c agrees p f why.Limit Limit passed.0 passed.1 refl
    ]
stage_of c agrees p f why.NotOffered fails = impossible fails.0 fails.1 refl
stage_of c agrees p f (why.Fault g) fails = tried_with c agrees p f (why.Fault g) (Fault g) fails.0
    fails.1 refl
stage_of c agrees p f why.WrongOutput fails =
    let t = fails.1 in
    tried_with c agrees p f why.WrongOutput (Done t.outs t.situation) t.step.possible t.step.done
    (inl (refl, λ a. fails.2 (subst agrees (sym t.leads) a)))
stage_of c agrees p f why.TooSilent fails =
    let t = fails.1 in
    tried_with c agrees p f why.TooSilent (Done t.outs t.situation) t.step.possible t.step.done
    (inr (refl, subst agrees t.leads fails.2))
stage_of c agrees p f (why.NoStart g) fails = absurd fails
stage_of c agrees p f why.NoEvent fails = absurd fails
stage_of c agrees p f why.NotAll fails = absurd fails

behind_one : (agrees : Place → Type 0) (p : Place) (v w : Why) (o : FiringOutcome)
    → FailsBehind agrees p v o → FailsBehind agrees p w o → v ≡ w
behind_one agrees p v w (Done outs s) a b =
    elim a [
      | inl x ↦ elim b [ inl y ↦ x.0 ∙ sym y.0 | inr y ↦ absurd (x.1 y.1) ]
      | inr x ↦ elim b [ inl y ↦ absurd (y.1 x.1) | inr y ↦ x.0 ∙ sym y.0 ]
    ]
behind_one agrees p v w (Fault g) a b = a ∙ sym b
behind_one agrees p v w Limit a b = a ∙ sym b

stages_one : (c : Setup) (agrees : Place → Type 0) (p : Place) (f : Firing) (v w : Why)
    → Stage c agrees p f v → Stage c agrees p f w → v ≡ w
stages_one c agrees p f v w (unsettled x e) (unsettled y d) = e ∙ sym d
stages_one c agrees p f v w (unsettled x e) (impossible s y d) = absurd (x s)
stages_one c agrees p f v w (unsettled x e) (tried y h) =
    absurd (x (possible_settled c.limit (text_of c.spec) p.situation f y))
stages_one c agrees p f v w (impossible s x e) (unsettled y d) = absurd (y s)
stages_one c agrees p f v w (impossible s x e) (impossible t y d) = e ∙ sym d
stages_one c agrees p f v w (impossible s x e) (tried y h) = absurd (x y)
stages_one c agrees p f v w (tried x g) (unsettled y d) =
    absurd (y (possible_settled c.limit (text_of c.spec) p.situation f x))
stages_one c agrees p f v w (tried x g) (impossible t y d) = absurd (y x)
stages_one c agrees p f v w (tried x g) (tried y h) = behind_one agrees p v w
    (outcome c.limit (text_of c.spec) p.situation f) g h

-- one check of a move fails first
pub fails_one : (c : Setup) (agrees : Place → Type 0) (p : Place) (m : Move) (v w : Why)
    → MoveFails c agrees p m v → MoveFails c agrees p m w → v ≡ w
fails_one c agrees p Take v w a b = a.0 ∙ sym b.0
fails_one c agrees p (Fire f) v w a b = stages_one c agrees p f v w (stage_of c agrees p f v a)
    (stage_of c agrees p f w b)

-- ONE MOVE BACK AND ON

move_grows : (c : Setup) (p : Place) (m : Move) (q : Place) → Moves c p m q → Grows p q
move_grows c p Take q t = record {
  more = t.event ∷ [];
  events = ap (λ (w : Place). w.events) t.leads;
}
move_grows c p (Fire f) q t = record {
  more = t.outs;
  events = ap (λ (w : Place). w.events) t.leads;
}

follows_before : (c : Setup) (run : List Move) (p : Place) → IsBoundedRun c run p → Follows c p
    → FollowsBefore c run
follows_before c [] p r f = tt
follows_before c (m ∷ earlier) p r f =
    (r.0, r.1, follows_grows c r.0 p (move_grows c r.0 m p r.2) f)

-- a run that passes without its last move, which passes too
pub record PassedBefore (c : Setup) (claim : ℕ) (m : Move) (earlier left : List Move) (p : Place) :
    Type 0 where
  pub place : Place
  pub passed : IsPassed c claim earlier (m ∷ left) place
  pub last : Passes c (AgreesSoFar c claim left) place m p

pub one_back : (c : Setup) (claim : ℕ) (m : Move) (earlier left : List Move) (p : Place)
    → IsPassed c claim (m ∷ earlier) left p → PassedBefore c claim m earlier left p
one_back c claim m earlier left p a =
    let r = a.is_run in
    let e : a.before.0 ≡ r.0 = one_place c earlier a.before.0 r.0 a.before.1 r.1 in
    let f : Follows c r.0 = subst (Follows c) e a.before.2 in
    record {
      place = r.0;
      passed = record { is_run = r.1; before = follows_before c earlier r.0 r.1 f; agrees = f };
      last = record { moves = r.2; bounded = r.3; agreed = a.agrees };
    }

pub one_on : (c : Setup) (claim : ℕ) (m : Move) (earlier left : List Move) (p q : Place)
    → IsPassed c claim earlier (m ∷ left) p → Passes c (AgreesSoFar c claim left) p m q
    → IsPassed c claim (m ∷ earlier) left q
one_on c claim m earlier left p q a t = record {
  is_run = (p, a.is_run, t.moves, t.bounded);
  before = (p, a.is_run, a.agrees);
  agrees = t.agreed;
}

-- the moves of a run that yields the claim pass every check
pub yields_passed : (c : Setup) (run : List Move) (claim : ℕ) → Yields c run claim
    → (p : Place) × IsPassed c claim run [] p
yields_passed c run claim y =
    elim y [
      | inl a ↦ (
        a.place,
        record {
          is_run = a.is_run;
          before = a.before;
          agrees = so_many_first claim c.trace.events (take claim a.place.events) a.agree;
        },
      )
      | inr a ↦ (let e = a.1 in (
        e.place,
        record {
          is_run = e.is_run;
          before = follows_before c run e.place e.is_run (explains_follows c run e);
          agrees = follows_agrees c claim [] e.place (explains_follows c run e);
        },
      ))
    ]

-- THE WALK

-- what a walk over the moves that are left answers; so many moves were made before, and Y says
-- whether the claim is yielded at the end
abbrev pub Walks : Setup → ℕ → Type 0 → Place → List Move → ℕ → Replayed → Type 0
Walks c claim Y p [] made answer = ((answer ≡ Confirmed claim) × Y)
    ⊎ ((answer ≡ Rejected (made + 1) why.NotAll) × (Y → ⊥))
Walks c claim Y p (m ∷ left) made answer =
    ((w : Why) × (answer ≡ Rejected (made + 1) w) × MoveFails c (AgreesSoFar c claim left) p m w)
    ⊎ ((q : Place) × Passes c (AgreesSoFar c claim left) p m q
    × Walks c claim Y q left (made + 1) answer)

-- it has one answer
pub walks_one : (c : Setup) (claim : ℕ) (Y : Type 0) (p : Place) (moves : List Move) (made : ℕ)
    (a b : Replayed) → Walks c claim Y p moves made a → Walks c claim Y p moves made b → a ≡ b
walks_one c claim Y p [] made a b x y =
    elim x [
      | inl s ↦ elim y [ inl t ↦ s.0 ∙ sym t.0 | inr t ↦ absurd (t.1 s.1) ]
      | inr s ↦ elim y [ inl t ↦ absurd (s.1 t.1) | inr t ↦ s.0 ∙ sym t.0 ]
    ]
walks_one c claim Y p (m ∷ left) made a b x y =
    elim x [
      | inl s ↦ elim y [
        | inl t ↦ s.1 ∙ ap (Rejected (made + 1)) (fails_one c (AgreesSoFar c claim left) p m s.0 t.0
            s.2 t.2) ∙ sym t.1
        | inr t ↦ absurd (passes_not_fails c (AgreesSoFar c claim left) p m t.0 s.0 t.1 s.2)
      ]
      | inr s ↦ elim y [
        | inl t ↦ absurd (passes_not_fails c (AgreesSoFar c claim left) p m s.0 t.0 s.1 t.2)
        | inr t ↦ (let e : t.0 ≡ s.0 = moves_one c p m t.0 s.0 t.1.moves s.1.moves in
            walks_one c claim Y s.0 left (made + 1) a b s.2
            (subst (λ q. Walks c claim Y q left (made + 1) b) e t.2))
      ]
    ]

-- a walk that goes on after a run that passes is one from the start
pub walk_back : (c : Setup) (claim : ℕ) (Y : Type 0) (run left : List Move) (p : Place) (made : ℕ)
    (a : Replayed) → made ≡ length run → IsPassed c claim run left p → Walks c claim Y p left made a
    → AgreesSoFar c claim (reverse run ++ left) (first_place c)
    × Walks c claim Y (first_place c) (reverse run ++ left) 0 a
walk_back c claim Y [] left p made a e passed w = (
  subst (AgreesSoFar c claim left) passed.is_run passed.agrees,
  subst
      (λ n. Walks c claim Y (first_place c) left n a) e
      (subst (λ q. Walks c claim Y q left made a) passed.is_run w),
)
walk_back c claim Y (m ∷ earlier) left p made a e passed w =
    let b = one_back c claim m earlier left p passed in
    let n : length earlier + 1 ≡ made = omega arith in
    let back = walk_back c claim Y earlier (m ∷ left) b.place (length earlier) a refl b.passed
    (inr (p, b.last, subst (λ k. Walks c claim Y p left k a) (sym n) w)) in
    let same : reverse earlier ++ m ∷ left ≡ reverse (m ∷ earlier) ++ left =
    sym (append_assoc (reverse earlier) (m ∷ []) left)
    ∙ ap (λ w. w ++ left) (sym (reverse-append (m ∷ []) earlier)) in
    subst (λ moves. AgreesSoFar c claim moves (first_place c)
    × Walks c claim Y (first_place c) moves 0 a) same back

-- an answer, and the walk of which it is the answer
abbrev pub IsWalked : Setup → List Move → ℕ → Replayed → Type 0
IsWalked c moves claim a =
    ((a ≡ Rejected 0 why.WrongOutput) × (AgreesSoFar c claim moves (first_place c) → ⊥))
    ⊎ (AgreesSoFar c claim moves (first_place c) × Walks c claim (Yields c (reverse moves) claim)
    (first_place c) moves 0 a)

walked : (c : Setup) (moves run left : List Move) (claim : ℕ) (p : Place) (made : ℕ) (a : Replayed)
    → moves ≡ reverse run ++ left → made ≡ length run → IsPassed c claim run left p
    → Walks c claim (Yields c (reverse moves) claim) p left made a → IsWalked c moves claim a
walked c moves run left claim p made a e n passed w =
    let Y = Yields c (reverse moves) claim in
    let back = walk_back c claim Y run left p made a n passed w in
    inr (subst (λ ms. AgreesSoFar c claim ms (first_place c)
    × Walks c claim Y (first_place c) ms 0 a) (sym e) back)

walked_whole : (moves : List Move) → moves ≡ reverse (reverse moves) ++ []
walked_whole moves = sym (reverse-reverse moves) ∙ sym (append-nil (reverse (reverse moves)))

answer_walked : (c : Setup) (moves : List Move) (claim : ℕ) (a : Replayed)
    → IsAnswer c moves claim a → IsWalked c moves claim a
answer_walked c moves claim (Confirmed events) x =
    let t = yields_passed c (reverse moves) claim x.1 in
    walked c moves (reverse moves) [] claim t.0 (length (reverse moves)) (Confirmed events)
    (walked_whole moves) refl t.1 (inl (ap Confirmed x.0, x.1))
answer_walked c moves claim (Rejected at w) x =
    elim x [
      | inl s ↦ (let e : Rejected at w ≡ Rejected 0 why.WrongOutput = ap (λ n. Rejected n w) s.at_is
          ∙ ap (Rejected 0) s.why_is in inl (e, s.differs))
      | inr y ↦ elim y [
        | inl s ↦ walked c moves (reverse s.earlier) (s.move ∷ s.left) claim s.place
            (length s.earlier) (Rejected at w)
            (s.moves_are ∙ ap (λ ms. ms ++ s.move ∷ s.left) (sym (reverse-reverse s.earlier)))
            (sym (length-reverse s.earlier)) s.passed
            (inl (w, ap (λ n. Rejected n w) s.at_is, s.fails))
        | inr s ↦ (let e : Rejected at w ≡ Rejected (length moves + 1) why.NotAll =
            ap (λ n. Rejected n w) s.at_is ∙ ap (Rejected (length moves + 1)) s.why_is in
            walked c moves (reverse moves) [] claim s.place (length moves) (Rejected at w)
            (walked_whole moves) (sym (length-reverse moves)) s.passed (inr (e, s.unyielded)))
      ]
    ]

walked_one : (c : Setup) (moves : List Move) (claim : ℕ) (a b : Replayed) → IsWalked c moves claim a
    → IsWalked c moves claim b → a ≡ b
walked_one c moves claim a b x y =
    elim x [
      | inl s ↦ elim y [ inl t ↦ s.0 ∙ sym t.0 | inr t ↦ absurd (s.1 t.0) ]
      | inr s ↦ elim y [
        | inl t ↦ absurd (t.1 s.0)
        | inr t ↦ walks_one c claim (Yields c (reverse moves) claim) (first_place c) moves 0 a b s.1
            t.1
      ]
    ]

from_one : (limit silent : ℕ) (spec : Spec) (trace : Recorded) (moves : List Move) (claim : ℕ)
    (a b : Replayed) (o : FiringOutcome) → AnswersFrom limit silent spec trace moves claim a o
    → AnswersFrom limit silent spec trace moves claim b o → a ≡ b
from_one limit silent spec trace moves claim a b (Done outs s) x y =
    let c : Setup = record {
      spec = spec;
      limit = limit;
      silent = silent;
      trace = trace;
      start = s;
      start_outs = outs;
    } in
    walked_one c moves claim a b (answer_walked c moves claim a x) (answer_walked c moves claim b y)
from_one limit silent spec trace moves claim a b (Fault g) x y = x ∙ sym y
from_one limit silent spec trace moves claim a b Limit x y = x ∙ sym y

pub answer_one : OneAnswer
answer_one limit silent spec trace moves claim a b x y = from_one limit silent spec trace moves
    claim a b (start_of limit (text_of spec)) x y
