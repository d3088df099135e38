-- What is found, instance by instance.
use Rattle.std.proofs.Common.{◌≡◌, ◌<◌, ◌≤◌, ◌+◌, ◌⊎◌, refl, sym, ap, subst, ◌∙◌, inl, inr, ℕ}
use Rattle.std.proofs.Common.{zero, suc, Bool, true, false, List, [], ◌∷◌, ◌++◌, Option, Some}
use Rattle.std.proofs.Common.{None, arith, not, length, get_or, is_some, Result, Ok, Err, is_ok}
use Rattle.std.specs.Prelude.{MatchResult}
use Rattle.std.specs.List.{filter}
use Rattle.std.proofs.lemmas.Bool.{cases_lt}
use Rattle.est_syntax.specs.Least.{IsIn}
use Rattle.est_meaning.specs.mean_blocks.TextByPlace.{Text}
use Rattle.est_meaning.specs.mean_blocks.GlobalSituation.{Situation}
use Rattle.est_meaning.specs.declared.firing.Firing.{Firing}
use Rattle.est_meaning.specs.TransitionChoices.{choice_of}
use Rattle.est_meaning.specs.TransitionSelection.{is_offered, is_due}
use Rattle.est_meaning.specs.TransitionSelection.{is_offered_choice, is_due_choice, outranks}
use Rattle.est_meaning.specs.TransitionSelection.{priority_at}
use Rattle.est_meaning.proofs.Guards.{due_is_offered_is_enabled, implied}
use Rattle.est_meaning.specs.FiringOrder.{FiringBefore, IsAscending}
use Rattle.plain_choices.specs.declared.found.Found.{Found}
use Rattle.plain_choices.specs.declared.offers.Offer.{Offer}
use Rattle.plain_choices.specs.inside.InstanceOffers.{IsSurvey, IsFiringOf, firings_of}
use Rattle.plain_choices.specs.inside.InstanceOffers.{IsBestDue, is_unranked}
use Rattle.plain_choices.specs.inside.SystemOffers.{IsUnranked, IsFound, AreSorted}
use Rattle.plain_choices.proofs.Members.{in_append, in_front, in_back, in_snoc, in_last, offer_of}
use Rattle.plain_choices.proofs.Members.{firing_in, passed, passes, ascending_append}
use Rattle.plain_choices.proofs.Members.{ascending_filter}
use Rattle.plain_choices.proofs.Ranks.{outranks_below}
use Rattle.plain_choices.proofs.Surveys.{not_both}

-- what is due is offered
pub due_offered : (limit : ℕ) (t : Text) (s : Situation) (f : Firing)
    → is_due limit t s f ≡ true → is_offered limit t s f ≡ true
due_offered limit t s f e = implied (is_due_choice limit t s) (is_offered_choice limit t s)
    (choice_of t s f) (λ c h. due_is_offered_is_enabled.due limit t s c h) e

-- SORTED NUMBERS

pub get_in : (n : ℕ) (ns : List ℕ) → IsIn n ns → (k : ℕ) × (k < length ns) × (get_or ns k 0 ≡ n)
get_in n [] a = absurd a
get_in n (m ∷ ns) a = elim a [
  | inl e ↦ (0, omega arith, e)
  | inr b ↦ (let w = get_in n ns b in (suc w.0, (let h = w.1 in omega arith), w.2))
]

pub in_at : (ns : List ℕ) (k : ℕ) → k < length ns → IsIn (get_or ns k 0) ns
in_at [] k lt = absurd (omega (arith, lt))
in_at (m ∷ ns) zero lt = inl refl
in_at (m ∷ ns) (suc k) lt = inr (in_at ns k (omega (arith, lt)))

sorted_below : (m : ℕ) (ns : List ℕ) → ((n : ℕ) → IsIn n ns → m ≤ n) → AreSorted ns
    → AreSorted (m ∷ ns)
sorted_below m ns h k i zero le lt = (let e : i ≡ 0 = omega (arith, le) in
    subst (λ j. get_or (m ∷ ns) j 0 ≤ m) (sym e) (omega arith))
sorted_below m ns h k zero (suc j) le lt = h (get_or ns j 0) (in_at ns j (omega (arith, lt)))
sorted_below m ns h k (suc i) (suc j) le lt = k i j (omega (arith, le)) (omega (arith, lt))

pub sorted_none : AreSorted []
sorted_none i j le lt = absurd (omega (arith, lt))

sorted_rest : (m : ℕ) (ns : List ℕ) → AreSorted (m ∷ ns) → AreSorted ns
sorted_rest m ns h i j le lt = h (suc i) (suc j) (omega (arith, le)) (omega (arith, lt))

sorted_first : (m n : ℕ) (ns : List ℕ) → AreSorted (m ∷ ns) → IsIn n ns → m ≤ n
sorted_first m n ns h a = let w = get_in n ns a in
    subst (λ k. m ≤ k) w.2 (h 0 (suc w.0) (omega arith) (let l = w.1 in omega arith))

pub sorted_snoc : (n : ℕ) (ns : List ℕ) → AreSorted ns → ((m : ℕ) → IsIn m ns → m < n)
    → AreSorted (ns ++ n ∷ [])
sorted_snoc n [] h lt = sorted_below n [] (λ m a. absurd a) h
sorted_snoc n (m ∷ ns) h lt = sorted_below m (ns ++ n ∷ [])
    (λ k a. elim (in_snoc k n ns a) [
      | inl b ↦ sorted_first m k ns h b
      | inr e ↦ (let l : m < n = lt m (inl refl) in omega (arith, e))
    ])
    (sorted_snoc n ns (sorted_rest m ns h) (λ k a. lt k (inr a)))

-- ONE MORE INSTANCE

earlier : (f g : Firing) → f.instance < g.instance → FiringBefore f g
unfolding FiringBefore
earlier f g h = inl h

-- the instances that have a due choice, after one more
abbrev pub dues_after : ℕ → Option Offer → List ℕ → List ℕ
dues_after n None ns = ns
dues_after n (Some b) ns = ns ++ n ∷ []

module _ (limit : ℕ) (t : Text) (s : Situation) (n : ℕ) (os : List Offer)
    (v : IsSurvey limit t s (IsFiringOf n) os) where
  -- a due firing of the instance is one of the offers
  due_in : (g : Firing) → g.instance ≡ n → is_due limit t s g ≡ true
      → (o : Offer) × IsIn o os × (o.firing ≡ g) × (o.due ≡ true)
  due_in g e d = let w = v.complete g e (due_offered limit t s g d) in
      (w.0, w.1, w.2, (v.sound w.0 w.1).due ∙ ap (is_due limit t s) w.2 ∙ d)

  unranked_by : (best : Option Offer) → IsBestDue os best → (o : Offer) → IsIn o os
      → is_unranked best o ≡ true → (p : Offer) → IsIn p os → p.due ≡ true
      → outranks p.priority o.priority ≡ true → ⊥
  unranked_by None b o a h p c d k = not_both p.due d (b p c)
  unranked_by (Some x) b o a h p c d k = not_both (outranks x.priority o.priority)
      (outranks_below p.priority x.priority o.priority k (b.2 p c d))
      (negated (outranks x.priority o.priority) h)
    where
      negated : (y : Bool) → not y ≡ true → y ≡ false
      negated true e = absurd (cc)
      negated false e = refl

  sound_one : (best : Option Offer) → IsBestDue os best → (o : Offer) → IsIn o os
      → is_unranked best o ≡ true → IsUnranked limit t s o.firing
  sound_one best b o a h = record {
    offered = (v.sound o a).offered;
    unranked = λ g e d k.
        let w = due_in g (e ∙ v.reached o.firing (firing_in o os a)) d in
        unranked_by best b o a h w.0 w.1 w.3
        ((λ i. outranks (((v.sound w.0 w.1).priority ∙ ap (priority_at t s) w.2) i)
        ((v.sound o a).priority i)) ∙ k);
  }

  passes_best : (best : Option Offer) → IsBestDue os best → (o : Offer) → IsIn o os
      → IsUnranked limit t s o.firing → is_unranked best o ≡ true
  passes_best None b o a u = refl
  passes_best (Some x) b o a u = affirmed (outranks x.priority o.priority) (λ k.
      u.unranked x.firing
      (v.reached x.firing (firing_in x os b.0) ∙ sym (v.reached o.firing (firing_in o os a)))
      (sym (v.sound x b.0).due ∙ b.1)
      ((λ i. outranks (sym (v.sound x b.0).priority i) (sym (v.sound o a).priority i)) ∙ k))
    where
      affirmed : (y : Bool) → (y ≡ true → ⊥) → not y ≡ true
      affirmed true h = absurd (h refl)
      affirmed false h = refl

  firing_one : (best : Option Offer) → IsBestDue os best → (f : Firing)
      → IsIn f (firings_of (filter (is_unranked best) os))
      → (f.instance ≡ n) × IsUnranked limit t s f
  firing_one best b f a =
      let w = offer_of f (filter (is_unranked best) os) a in
      let p = passed w.0 os (is_unranked best) w.1 in
      subst (λ (g : Firing). (g.instance ≡ n) × IsUnranked limit t s g) w.2
      (v.reached w.0.firing (firing_in w.0 os p.0), sound_one best b w.0 p.0 p.1)

  one_firing : (best : Option Offer) → IsBestDue os best → (f : Firing) → f.instance ≡ n
      → IsUnranked limit t s f → IsIn f (firings_of (filter (is_unranked best) os))
  one_firing best b f e u =
      let w = v.complete f e u.offered in
      subst (λ g. IsIn g (firings_of (filter (is_unranked best) os))) w.2
      (firing_in w.0 (filter (is_unranked best) os) (passes w.0 os (is_unranked best) w.1
      (passes_best best b w.0 w.1 (subst (IsUnranked limit t s) (sym w.2) u))))

  -- DUE INSTANCES

  dues_in : (best : Option Offer) → IsBestDue os best → (ns : List ℕ) (m : ℕ)
      → IsIn m (dues_after n best ns)
      → IsIn m ns ⊎ ((m ≡ n) × ((g : Firing) × (g.instance ≡ m) × (is_due limit t s g ≡ true)))
  dues_in None b ns m a = inl a
  dues_in (Some x) b ns m a = elim (in_snoc m n ns a) [
    | inl c ↦ inl c
    | inr e ↦ inr (
      sym e,
      (x.firing, v.reached x.firing (firing_in x os b.0) ∙ e, sym (v.sound x b.0).due ∙ b.1),
    )
  ]

  due_instance : (best : Option Offer) → IsBestDue os best → (ns : List ℕ) (g : Firing)
      → g.instance ≡ n → is_due limit t s g ≡ true → IsIn g.instance (dues_after n best ns)
  due_instance None b ns g e d = let w = due_in g e d in absurd (not_both w.0.due w.3 (b w.0 w.1))
  due_instance (Some x) b ns g e d =
      subst (λ m. IsIn m (ns ++ n ∷ [])) (sym e) (in_last n ns)

  dues_keep : (best : Option Offer) (ns : List ℕ) (m : ℕ) → IsIn m ns
      → IsIn m (dues_after n best ns)
  dues_keep None ns m a = a
  dues_keep (Some x) ns m a = in_front m ns (n ∷ []) a

  dues_sorted : (best : Option Offer) (ns : List ℕ) → AreSorted ns
      → ((m : ℕ) → IsIn m ns → m < n) → AreSorted (dues_after n best ns)
  dues_sorted None ns h lt = h
  dues_sorted (Some x) ns h lt = sorted_snoc n ns h lt

  below_next : (m : ℕ) → m < n + 1 → (m < n) ⊎ (m ≡ n)
  below_next m h = elim (cases_lt m n) [ inl k ↦ inl k | inr k ↦ inr (omega arith) ]

  module _ (best : Option Offer) (b : IsBestDue os best) (x y : Found)
      (firings : y.firings.items
      ≡ x.firings.items ++ firings_of (filter (is_unranked best) os))
      (dues : y.dues.items ≡ dues_after n best x.dues.items)
      (k : IsFound limit t s n x) where
    firings_in : (f : Firing) → IsIn f y.firings.items
        → IsIn f x.firings.items ⊎ IsIn f (firings_of (filter (is_unranked best) os))
    firings_in f a = in_append f x.firings.items (firings_of (filter (is_unranked best) os))
        (subst (IsIn f) firings a)

    dues_before : (m : ℕ) → IsIn m y.dues.items → IsIn m x.dues.items
        ⊎ ((m ≡ n) × ((g : Firing) × (g.instance ≡ m) × (is_due limit t s g ≡ true)))
    dues_before m a = dues_in best b x.dues.items m (subst (IsIn m) dues a)

    pub found_more : IsFound limit t s (n + 1) y
    found_more = record {
      settled = λ f h. elim (below_next f.instance h) [
        | inl l ↦ k.settled f l
        | inr e ↦ v.settled f e
      ];
      ascending = subst IsAscending (sym firings) (ascending_append x.firings.items
          (firings_of (filter (is_unranked best) os)) k.ascending
          (ascending_filter os (is_unranked best) v.ascending)
          (λ f g a c. earlier f g (let l : f.instance < n = k.within f a in
          let e : g.instance ≡ n = (firing_one best b g c).0 in omega arith)));
      within = λ f a. elim (firings_in f a) [
        | inl c ↦ (let l : f.instance < n = k.within f c in omega arith)
        | inr c ↦ (let e : f.instance ≡ n = (firing_one best b f c).0 in omega arith)
      ];
      sound = λ f a. elim (firings_in f a) [
        | inl c ↦ k.sound f c
        | inr c ↦ (firing_one best b f c).1
      ];
      complete = λ f h u. subst (IsIn f) (sym firings) (elim (below_next f.instance h) [
        | inl l ↦ in_front f x.firings.items (firings_of (filter (is_unranked best) os))
            (k.complete f l u)
        | inr e ↦ in_back f x.firings.items (firings_of (filter (is_unranked best) os))
            (one_firing best b f e u)
      ]);
      dues_sorted = subst AreSorted (sym dues)
          (dues_sorted best x.dues.items k.dues_sorted k.dues_within);
      dues_within = λ m a. elim (dues_before m a) [
        | inl c ↦ (let l : m < n = k.dues_within m c in omega arith)
        | inr c ↦ (let e : m ≡ n = c.0 in omega arith)
      ];
      dues_sound = λ m a. elim (dues_before m a) [
        | inl c ↦ k.dues_sound m c
        | inr c ↦ c.1
      ];
      dues_complete = λ g h d. subst (IsIn g.instance) (sym dues)
          (elim (below_next g.instance h) [
            | inl l ↦ dues_keep best x.dues.items g.instance (k.dues_complete g l d)
            | inr e ↦ due_instance best b x.dues.items g e d
          ]);
    }

pub dues_some : (n : ℕ) (best : Option Offer) (ns ms : List ℕ) → is_some best ≡ true
    → ms ≡ ns ++ n ∷ [] → ms ≡ dues_after n best ns
dues_some n None ns ms h e = absurd (cc)
dues_some n (Some b) ns ms h e = e

pub dues_none : (n : ℕ) (best : Option Offer) (ns : List ℕ) → is_some best ≡ false
    → ns ≡ dues_after n best ns
dues_none n None ns h = refl
dues_none n (Some b) ns h = absurd (cc)

-- what a search in sorted numbers answers
pub one_of_sorted : (ns : List ℕ) (n : ℕ) (r : Result ℕ ℕ) (b : Bool)
    → MatchResult r (λ i. (i < length ns) × (get_or ns i 0 ≡ n))
    (λ i. (i ≤ length ns) × ((k : ℕ) → k < i → get_or ns k 0 < n)
    × ((k : ℕ) → i ≤ k → k < length ns → n < get_or ns k 0))
    → b ≡ is_ok r → (b ≡ true → IsIn n ns) × (IsIn n ns → b ≡ true)
one_of_sorted ns n (Ok i) b m e = (λ h. subst (λ k. IsIn k ns) m.1 (in_at ns i m.0), λ a. e)
one_of_sorted ns n (Err i) b m e =
    (λ h. absurd (not_both b h e), λ a. absurd (apart (get_in n ns a)))
  where
    apart : (k : ℕ) × (k < length ns) × (get_or ns k 0 ≡ n) → ⊥
    apart (k, l, q) = elim (cases_lt k i) [
      | inl x ↦ (let y : get_or ns k 0 < n = m.1 k x in omega arith)
      | inr x ↦ (let y : n < get_or ns k 0 = m.2 k x l in omega arith)
    ]
