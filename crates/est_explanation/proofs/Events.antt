-- Laws of events that agree with a trace.
use Rattle.std.proofs.Common.{◌≡◌, ◌≤◌, ◌<◌, ◌+◌, ◌-◌, ℕ, zero, suc, Bool, true, false}
use Rattle.std.proofs.Common.{◌&&◌, ◌==◌, List, [], ◌∷◌, ◌++◌, length, take, drop, get_or}
use Rattle.std.proofs.Common.{refl, sym, ap, subst, ◌∙◌, inl, inr, append_assoc, arith}
use Rattle.std.proofs.Math.Seq.{take-append-add}
use Rattle.std.proofs.lemmas.Bool.{cases_lt}
use Rattle.std.proofs.lemmas.Bool.Decides.{Decides-eqb}
use Rattle.std.proofs.lemmas.List.{take-append-drop, take_all, take-take}
use Rattle.std.proofs.lemmas.List.{take-append-le, length-take-le, get_or_append_left}
use Rattle.est_syntax.specs.Least.{IsIn}
use Rattle.est_meaning.specs.declared.event.Event.{Event}
use Rattle.est_meaning.specs.declared.trace.Expected.{Expected}
use Rattle.est_meaning.specs.declared.firing.Firing.{Firing}
use Rattle.est_meaning.specs.Agreement.{Agrees, AgreeAll, AgreeFirst}
use Rattle.est_meaning.proofs.AgreementLaws.{agree_length, agree_take, agree_joined}
use Rattle.est_meaning.proofs.AgreementLaws.{so_many_first, first_taken, first_behind}

-- BEGINNINGS

pub begins_whole : (trace : List Expected) (events : List Event) (n : ℕ) → length events ≤ n
    → AgreeAll (take n trace) (take n events) → AgreeFirst trace events
begins_whole trace events n le a = so_many_first n trace events
    (subst (λ w. AgreeAll (take n trace) w) (take_all n events le) a)

pub no_longer : (trace : List Expected) (events : List Event) → length trace < length events
    → AgreeFirst trace events → ⊥
no_longer trace events lt p = (let n = (first_taken trace events p).0 in omega arith)

-- what agrees, agrees at each place
agree_there : (xs : List Expected) (es : List Event) (k : ℕ) (x : Expected) (e : Event)
    → AgreeAll xs es → k < length es → Agrees (get_or xs k x) (get_or es k e)
agree_there [] [] k x e a lt = (let never : ⊥ = omega arith in absurd never)
agree_there [] (f ∷ es) k x e a lt = absurd a
agree_there (y ∷ xs) [] k x e a lt = absurd a
agree_there (y ∷ xs) (f ∷ es) zero x e a lt = a.0
agree_there (y ∷ xs) (f ∷ es) (suc k) x e a lt = agree_there xs es k x e a.1 (omega arith)

pub no_difference : (trace : List Expected) (events : List Event) (k : ℕ) (x : Expected) (e : Event)
    → k < length events → get_or trace k x ≡ x → get_or events k e ≡ e → (Agrees x e → ⊥)
    → AgreeFirst trace events → ⊥
no_difference trace events k x e lt there here differs p =
    let n = agree_length p.front events p.agree in
    let first : get_or p.front k x ≡ x =
    sym (ap (λ w. get_or w k x) p.split ∙ get_or_append_left p.front p.rest x k (omega arith))
    ∙ there in
    differs (subst (λ w. Agrees x w) here (subst (λ w. Agrees w (get_or events k e)) first
    (agree_there p.front events k x e p.agree lt)))

-- FROM A PLACE ON

taken_over : (events outs : List Event) (so asked : ℕ) → length events ≡ so → so ≤ asked
    → take asked (events ++ outs) ≡ events ++ take (asked - so) outs
taken_over events outs so asked many le =
    let n : asked ≡ length events + (asked - so) = omega arith in
    ap (λ k. take k (events ++ outs)) n ∙ take-append-add events outs (asked - so)

-- behind events that agree with so many of the trace, others agree with the first of the rest, just
-- where all events up to a number agree with the first of the trace
pub agrees_on : (trace : List Expected) (events outs : List Event) (so asked : ℕ)
    → so ≤ length trace → AgreeAll (take so trace) events
    → AgreeFirst (drop so trace) (take (asked - so) outs)
    → AgreeFirst trace (take asked (events ++ outs))
agrees_on trace events outs so asked within a p =
    let n : length events ≡ so = agree_length (take so trace) events a
    ∙ length-take-le so trace within in
    elim (cases_lt asked so) [
      | inl lt ↦
          (let short : take asked (events ++ outs) ≡ take asked events =
          take-append-le asked events outs (omega arith) in
          let fewer : AgreeAll (take asked trace) (take asked events) =
          subst (λ w. AgreeAll w (take asked events)) (take-take asked so trace (omega arith))
          (agree_take asked (take so trace) events a) in
          so_many_first asked trace (take asked (events ++ outs))
          (subst (λ w. AgreeAll (take asked trace) w) (sym short) fewer))
      | inr le ↦ record {
        front = take so trace ++ p.front;
        rest = p.rest;
        split = sym (take-append-drop so trace) ∙ ap (λ w. take so trace ++ w) p.split
            ∙ sym (append_assoc (take so trace) p.front p.rest);
        agree = subst (λ w. AgreeAll (take so trace ++ p.front) w)
            (sym (taken_over events outs so asked n le))
            (agree_joined (take so trace) p.front events (take (asked - so) outs) a p.agree);
      }
    ]

pub agrees_back : (trace : List Expected) (events outs : List Event) (so asked : ℕ)
    → so ≤ length trace → AgreeAll (take so trace) events
    → AgreeFirst trace (take asked (events ++ outs))
    → AgreeFirst (drop so trace) (take (asked - so) outs)
agrees_back trace events outs so asked within a p =
    let n : length events ≡ so = agree_length (take so trace) events a
    ∙ length-take-le so trace within in
    elim (cases_lt asked so) [
      | inl lt ↦ (let none : 0 ≡ asked - so = omega arith in subst (λ n. AgreeFirst (drop so trace)
          (take n outs)) none
          (record { front = []; rest = drop so trace; split = refl; agree = tt }))
      | inr le ↦ first_behind trace events (take (asked - so) outs) so within a
          (subst (λ w. AgreeFirst trace w) (taken_over events outs so asked n le) p)
    ]

-- AMONG

pub among_at : {X : Type 0} (x : X) (xs : List X) (k : ℕ) (d : X) → k < length xs
    → get_or xs k d ≡ x → IsIn x xs
among_at x [] k d lt e = absurd (omega arith)
among_at x (y ∷ ys) zero d lt e = inl e
among_at x (y ∷ ys) (suc k) d lt e = inr (among_at x ys k d (omega arith) e)

both_true : (a b : Bool) → true ≡ (a && b) → (a ≡ true) × (b ≡ true)
both_true true b e = (refl, sym e)
both_true false b e = cc

pub same_firing : (f g : Firing)
    → true ≡ ((f.instance == g.instance) && ((f.transition == g.transition) &&
    (f.choice == g.choice))) → f ≡ g
same_firing f g e =
    let a = both_true (f.instance == g.instance) ((f.transition == g.transition) &&
    (f.choice == g.choice)) e in
    let b = both_true (f.transition == g.transition) (f.choice == g.choice) (sym a.1) in
    let i : f.instance ≡ g.instance = (Decides-eqb f.instance g.instance).0 a.0 in
    let t : f.transition ≡ g.transition = (Decides-eqb f.transition g.transition).0 b.0 in
    let h : f.choice ≡ g.choice = (Decides-eqb f.choice g.choice).0 b.1 in
    ap (λ n. let r : Firing = record {
      instance = n;
      transition = f.transition;
      choice = f.choice;
    } in r) i
    ∙ ap (λ n. let r : Firing = record {
      instance = g.instance;
      transition = n;
      choice = f.choice;
    } in r) t
    ∙ ap (λ n. let r : Firing = record {
      instance = g.instance;
      transition = g.transition;
      choice = n;
    } in r) h
