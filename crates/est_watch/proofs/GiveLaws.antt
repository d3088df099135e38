-- What holds once an event is given, or where no more are.
use Rattle.std.proofs.Common.{◌≡◌, ◌≢◌, ℕ, ◌+◌, Bool, true, false}
use Rattle.std.proofs.Common.{List, [], ◌∷◌, ◌++◌, None, length, take, map}
use Rattle.std.proofs.Common.{refl, sym, ap, subst, ◌∙◌, inl, inr, append_assoc, arith}
use Rattle.std.proofs.lemmas.List.{length-append, append-nil, take_all, take-append-le}
use Rattle.std.proofs.Math.Seq.{take-length, take-append-add}
use Rattle.est_meaning.specs.declared.event.Event.{Event}
use Rattle.est_meaning.specs.declared.firing.Firing.{Firing}
use Rattle.est_meaning.specs.declared.trace.Expected.TheVariants.{Known}
use Rattle.est_meaning.specs.Agreement.{AgreeAll}
use Rattle.est_meaning.specs.SituationStacks.{Stack}
use Rattle.est_meaning.specs.declared.run.Move.{Move}
use Rattle.est_meaning.specs.Run.{Setup, Place, IsBoundedRun, Follows, FollowsBefore, YieldsFirst}
use Rattle.est_meaning.specs.Run.{Explains}
use Rattle.est_meaning.proofs.AgreementLaws.{agree_same, agree_joined, behind_one, first_taken}
use Rattle.est_meaning.proofs.RunLaws.{one_place, explains_yields, explains_follows}
use Rattle.est_meaning.proofs.TreeLaws.{IsOnTree}
use Rattle.run_paths.specs.Paths.{View}
use Rattle.est_search.specs.inside.Path.{place_at, StageIs}
use Rattle.mean_watch.specs.Watching.{so_far}
use Rattle.mean_watch.proofs.Growing.{known_joined, known_length, grown_run, grown_follows}
use Rattle.mean_watch.proofs.Parting.{take_joined}
use Rattle.est_watch.specs.inside.Known.{IsSought}
use Rattle.est_watch.specs.inside.Walk.{IsOnWay, IsFound, IsLeaving}
use Rattle.est_watch.proofs.GrowLaws.{one_more, lower_grows, known_trials, known_met, known_sought}
use Rattle.est_watch.proofs.GrowLaws.{known_left, more_off}
use Rattle.est_watch.proofs.Sought.{few_not_sought, few_open}

before_grows : (c : Setup) (events more : List Event) (h : List Move)
    → FollowsBefore (so_far c events) h → FollowsBefore (so_far c (events ++ more)) h
before_grows c events more [] b = tt
before_grows c events more (m ∷ h) b = (
  b.0,
  grown_run c events more h b.0 b.1,
  grown_follows c events more b.0 b.2,
)

module _ (c : Setup) (given : List Event) (exact : Bool) (stack : Stack)
    (v : View Move Firing) (over : List Event) (tried : ℕ) (passed : Bool)
    (found : IsFound (so_far c given) exact stack v over tried passed) where
  abbrev now : Setup
  now = so_far c given

  abbrev stands : Place
  stands = place_at stack.now v.top (found.stands.events ++ over)

  -- the events of the run are those given
  events_are : found.stands.events ≡ given
  events_are = agree_same given found.stands.events found.stands.agree

  events_many : length found.stands.events ≡ length given
  events_many = ap length events_are

  many : length (found.stands.events ++ over) ≡ length given + length over
  many = length-append found.stands.events over ∙ ap (λ n. n + length over) events_many

  trace_many : length (map Known given) ≡ length given
  trace_many = known_length given

  -- the run yields the events given
  pub found_yields : YieldsFirst now v.moves (length now.trace.events)
  found_yields =
      let n = many in
      let k = trace_many in
      let m = events_many in
      let es = found.stands.events in
      let first : take (length (map Known given)) (es ++ over) ≡ es =
      ap (λ j. take j (es ++ over)) (k ∙ sym m)
      ∙ take-append-le (length es) es over (omega arith) ∙ take-length es in
      record {
        place = stands;
        is_run = found.stands.is_run;
        before = found.stands.before;
        many = omega arith;
        within = omega arith;
        agree = subst (λ xs. AgreeAll xs (take (length (map Known given)) (es ++ over)))
            (sym (take-length (map Known given)))
            (subst (λ x. AgreeAll (map Known given) x) (sym first) found.stands.agree);
      }

  -- and explains them where it sent no more
  pub found_explains : over ≡ [] → Explains now v.moves
  found_explains none = record {
    place = stands;
    is_run = found.stands.is_run;
    whole = record {
      events = subst (λ xs. AgreeAll (map Known given) xs)
          (sym (append-nil found.stands.events)
          ∙ ap (λ xs. found.stands.events ++ xs) (sym none)) found.stands.agree;
      quiet = λ q. (let never : ⊥ = cc in absurd never);
    };
  }

module _ (c : Setup) (given : List Event) (stack : Stack) (v : View Move Firing)
    (over : List Event) (tried : ℕ) (passed : Bool)
    (found : IsFound (so_far c given) false stack v over tried passed) where
  abbrev here : Setup
  here = so_far c given

  abbrev standing : Place
  standing = place_at stack.now v.top (found.stands.events ++ over)

  is_many : length (found.stands.events ++ over) ≡ length given + length over
  is_many = many c given false stack v over tried passed found

  are_many : length found.stands.events ≡ length given
  are_many = events_many c given false stack v over tried passed found

  so_many : length (map Known given) ≡ length given
  so_many = known_length given

  -- NO MORE ARE GIVEN

  pub leaves_at_end : (o : Event) (rest : List Event) → over ≡ o ∷ rest
      → IsLeaving here true stack v tried passed
  leaves_at_end o rest is =
      let n = is_many in
      let k = so_many in
      let l : length over ≡ length rest + 1 = ap length is ∙ (omega arith) in
      let off : IsOnTree here v.moves → ⊥ =
      more_off here v.moves standing found.stands.is_run (omega arith) in
      record {
        lower = found.stands.lower;
        knows = known_left here v.moves off true tried passed (λ x. off (record {
          place = x.place;
          is_run = x.is_run;
          follows = explains_follows here v.moves x;
        })) found.trials (λ run x. found.sought run
            (explains_yields here run (length here.trace.events) (omega arith) x)) found.met;
      }

  -- ONE MORE IS GIVEN

  module _ (e : Event) where
    abbrev next : Setup
    next = so_far c (given ++ e ∷ [])

    next_many : length (map Known (given ++ e ∷ [])) ≡ length given + 1
    next_many = one_more c given e

    next_run : IsBoundedRun next v.moves standing
    next_run = grown_run c given (e ∷ []) v.moves standing found.stands.is_run

    -- the last firing sent no more: the walk goes on from the run
    pub goes_on : over ≡ [] → IsOnWay next false stack v tried passed
    goes_on none =
        let n = is_many in
        let k = so_many in
        let o = next_many in
        let m = found.stands.matched in
        let es = found.stands.events in
        let l : length over ≡ 0 = ap length none in
        let same : es ++ over ≡ es = ap (λ xs. es ++ xs) none ∙ append-nil es in
        let run : IsBoundedRun next v.moves (place_at stack.now v.top es) =
        subst (λ xs. IsBoundedRun next v.moves (place_at stack.now v.top xs)) same next_run in
        let es_many = are_many in
        record {
          dealt = None;
          at = record {
            mine = [];
            rest = v.tries;
            firings_are = refl;
            count = sym found.stands.none_left;
            node = record {
              events = es;
              is_run = run;
              within = omega arith;
              agree = subst (λ xs. AgreeAll xs es)
                  (sym (take_joined v.top.matched given (e ∷ []) (omega arith)
                  ∙ ap (λ j. take j (map Known given)) m ∙ take-length (map Known given)))
                  found.stands.agree;
              unfinished = few_open next (place_at stack.now v.top es) (omega arith);
            };
            stage = subst (λ s. StageIs next stack.now s None []) (sym found.stands.fresh)
                (refl, refl);
            lower = lower_grows c given e v.lower v.moves stack.below v.tries found.stands.lower;
          };
          knows = record {
            trials = known_trials c given e v.moves tried passed found.trials found.sought
                found.met;
            sought = λ r y. elim (known_sought c given e v.moves tried passed found.trials
                found.sought found.met r y) [
                  | inl is ↦ absurd (few_not_sought next false v.moves (place_at stack.now v.top es)
                      run (omega arith) (subst (IsSought next false) is y))
                  | inr p ↦ p
                ];
            met = known_met c given e v.moves tried passed found.trials found.sought found.met
                passed found.met;
          };
        }

    -- it sent this one: the walk stands where it stood
    pub stands_on : (rest : List Event) → over ≡ e ∷ rest
        → IsFound next false stack (record v { top = record v.top { matched = v.top.matched + 1 } })
        rest tried passed
    stands_on rest is =
        let k = so_many in
        let o = next_many in
        let m = found.stands.matched in
        let es = found.stands.events in
        let parted : es ++ over ≡ (es ++ e ∷ []) ++ rest =
        ap (λ xs. es ++ xs) is ∙ sym (append_assoc es (e ∷ []) rest) in
        record {
          stands = record {
            events = es ++ e ∷ [];
            is_run = subst (λ xs. IsBoundedRun next v.moves (place_at stack.now v.top xs)) parted
                next_run;
            agree = subst (λ xs. AgreeAll xs (es ++ e ∷ [])) (sym (known_joined given (e ∷ [])))
                (agree_joined (map Known given) (Known e ∷ []) es (e ∷ []) found.stands.agree
                (refl, tt));
            before = before_grows c given (e ∷ []) v.moves found.stands.before;
            matched = omega arith;
            fresh = found.stands.fresh;
            none_left = found.stands.none_left;
            lower = lower_grows c given e v.lower v.moves stack.below v.tries found.stands.lower;
          };
          ends = λ t. (let never : ⊥ = cc in absurd never);
          trials = known_trials c given e v.moves tried passed found.trials found.sought found.met;
          sought = known_sought c given e v.moves tried passed found.trials found.sought found.met;
          met = known_met c given e v.moves tried passed found.trials found.sought found.met
              passed found.met;
        }

    -- it sent another one: the run is left
    module _ (other : Event) (rest : List Event) (is : over ≡ other ∷ rest)
        (differs : other ≢ e) where
      -- the events agree with those given for no more than these
      differ : AgreeAll (map Known (given ++ e ∷ []))
          (take (length given + 1) (found.stands.events ++ over)) → ⊥
      differ a =
          let es = found.stands.events in
          let first : take (length given + 1) (es ++ over) ≡ es ++ other ∷ [] =
          ap (λ xs. take (length given + 1) (es ++ xs)) is
          ∙ ap (λ n. take (n + 1) (es ++ other ∷ rest)) (sym are_many)
          ∙ take-append-add es (other ∷ rest) 1 in
          let same : es ++ other ∷ [] ≡ given ++ e ∷ [] =
          sym first ∙ agree_same (given ++ e ∷ []) (take (length given + 1) (es ++ over)) a in
          let last : other ∷ [] ≡ e ∷ [] =
          behind_one es (other ∷ []) given (e ∷ []) are_many same in
          let one : other ≡ e = cc in
          differs one

      left_off : IsOnTree next v.moves → ⊥
      left_off on =
          let es = found.stands.events in
          let n = is_many in
          let o = next_many in
          let l : length over ≡ length rest + 1 = ap length is ∙ (omega arith) in
          let p : on.place ≡ standing = one_place next v.moves on.place standing on.is_run next_run in
          let f : Follows next standing = subst (λ w. Follows next w) p on.follows in
          let a = first_taken (map Known (given ++ e ∷ [])) (es ++ over) f in
          let le = a.0 in
          let all : length (es ++ over) ≡ length given + 1 = omega arith in
          differ (subst (λ x. AgreeAll (map Known (given ++ e ∷ [])) x)
          (sym (take_all (length given + 1) (es ++ over) (omega arith)))
          (subst (λ xs. AgreeAll xs (es ++ over))
          (ap (λ j. take j (map Known (given ++ e ∷ []))) (all ∙ sym o)
          ∙ take-length (map Known (given ++ e ∷ []))) a.1))

      left_never : IsSought next false v.moves → ⊥
      left_never y =
          let o = next_many in
          let p : y.place ≡ standing = one_place next v.moves y.place standing y.is_run next_run in
          let a : AgreeAll (take (length (map Known (given ++ e ∷ []))) (map Known (given ++ e ∷ [])))
          (take (length (map Known (given ++ e ∷ []))) (found.stands.events ++ over)) =
          subst (λ (w : Place). AgreeAll
          (take (length (map Known (given ++ e ∷ []))) (map Known (given ++ e ∷ [])))
          (take (length (map Known (given ++ e ∷ []))) w.events)) p y.agree in
          differ (subst (λ n. AgreeAll (map Known (given ++ e ∷ []))
          (take n (found.stands.events ++ over))) o
          (subst (λ xs. AgreeAll xs (take (length (map Known (given ++ e ∷ [])))
          (found.stands.events ++ over))) (take-length (map Known (given ++ e ∷ []))) a))

      pub leaves : IsLeaving next false stack v tried passed
      leaves = record {
        lower = lower_grows c given e v.lower v.moves stack.below v.tries found.stands.lower;
        knows = known_left next v.moves left_off false tried passed left_never
            (known_trials c given e v.moves tried passed found.trials found.sought found.met)
            (known_sought c given e v.moves tried passed found.trials found.sought found.met)
            (known_met c given e v.moves tried passed found.trials found.sought found.met passed
            found.met);
      }
