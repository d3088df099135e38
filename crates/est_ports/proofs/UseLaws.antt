-- Events that are used up one by one.
use Rattle.std.proofs.Common.{◌≡◌, ◌≤◌, ◌<◌, ◌+◌, ℕ, zero, suc, List, [], ◌∷◌, ◌++◌, length}
use Rattle.std.proofs.Common.{get_or, take, Some, refl, sym, ap, subst, ◌∙◌, arith}
use Rattle.std.proofs.Common.{append_assoc}
use Rattle.std.proofs.lemmas.List.{append-nil}
use Rattle.std.specs.Prelude.{slice_get}
use Rattle.est_meaning.specs.declared.event.Event.{Event}
use Rattle.mean_ports.specs.declared.lists.PortLists.{PortLists}
use Rattle.mean_ports.specs.Merges.{IsAt}
use Rattle.mean_ports.specs.PortRuns.{Left, IsNextAt, AreNext, none, more}
use Rattle.est_ports.specs.declared.left.Used.TheVariants.{At}
use Rattle.est_ports.specs.declared.left.Rest.{Rest}
use Rattle.est_ports.specs.inside.Cursors.{cut, first_at}
use Rattle.est_ports.specs.inside.Leftover.{lists_of, used_of, Stands, HasUsed, UsedNext, NotNext}
use Rattle.est_ports.specs.inside.Leftover.{UsesMore}
use Rattle.est_ports.proofs.CursorLaws.{get_below}
use Rattle.est_ports.proofs.StandLaws.{first_next, next_first}

-- LISTS

-- one item more
pub take_one : {X : Type 0} (xs : List X) (n : ℕ) (x : X) → slice_get xs n ≡ Some x
    → take (suc n) xs ≡ take n xs ++ x ∷ []
take_one [] n x h = (let never : ⊥ = cc in absurd never)
take_one (y ∷ xs) zero x h = (let same : y ≡ x = cc in ap (λ w. w ∷ []) same)
take_one (y ∷ xs) (suc n) x h = ap (λ w. y ∷ w) (take_one xs n x h)

-- the item at a place is the one that is read there
pub item_there : {X : Type 0} (xs : List X) (n : ℕ) (x y : X) → slice_get xs n ≡ Some x
    → get_or xs n y ≡ y → x ≡ y
item_there [] n x y h r = (let never : ⊥ = cc in absurd never)
item_there (z ∷ xs) zero x y h r = (let same : z ≡ x = cc in sym same ∙ r)
item_there (z ∷ xs) (suc n) x y h r = item_there xs n x y h r

-- and the other way round
pub item_at : {X : Type 0} (xs : List X) (n : ℕ) (x : X) → n < length xs → get_or xs n x ≡ x
    → slice_get xs n ≡ Some x
item_at [] n x lt r = (let never : ⊥ = omega arith in absurd never)
item_at (z ∷ xs) zero x lt r = ap Some r
item_at (z ∷ xs) (suc n) x lt r = item_at xs n x (omega arith) r

-- the events are these, and then one more
pub next_behind : (left middle after : Left) (es : List Event) (e : Event) → AreNext left es middle
    → IsNextAt middle e after → AreNext left (es ++ e ∷ []) after
next_behind left middle after es e none n = more n none
next_behind left middle after es e (more {middle = first} {e = f} {es = fs} n a) m =
    more n (next_behind first middle after fs e a m)

-- ONE EVENT

module _ (lists : PortLists) (rest : Rest) (e : Event) where
  -- an event that is at no port is not next
  pub no_port : ((port : ℕ) → IsAt port e → ⊥) → NotNext lists rest rest e
  no_port nowhere = record { same = refl; not = λ left after events s n. nowhere n.port n.at }

  -- nor is one that does not come first at its port
  pub not_first : (port : ℕ) → IsAt port e
      → (first_at (cut rest.cursors.items (lists_of lists rest.phase)) port ≡ Some e → ⊥)
      → NotNext lists rest rest e
  not_first port at other = record {
    same = refl;
    not = λ left after events s n. other
        (ap (λ (w : Left). first_at w.now port) (sym s.left_is)
        ∙ next_first left after port e at n);
  }

  -- one that comes first is used up
  pub is_first : (new : Rest) (port : ℕ) → IsAt port e
      → first_at (cut rest.cursors.items (lists_of lists rest.phase)) port ≡ Some e
      → used_of new ≡ At port ∷ used_of rest
      → ((left after : Left) (events : List Event) (f : Event) → Stands lists rest left events
      → IsAt port f → IsNextAt left f after → Stands lists new after (events ++ f ∷ []))
      → UsedNext lists rest new e
  is_first new port at first used stands = record {
    port = port;
    used = used;
    stands = λ left events s.
        let here : first_at left.now port ≡ Some e =
        ap (λ (w : Left). first_at w.now port) s.left_is ∙ first in
        let n = first_next left port e at here in
        (n.0, n.1, stands left n.0 events e s at n.1);
  }

-- SEVERAL EVENTS

-- so many of these events are used up so far
pub record IsUsing (lists : PortLists) (old rest : Rest) (outs : List Event) (many : ℕ) : Type 0
  where
    pub within : many ≤ length outs
    pub used : UsesMore (used_of old) (used_of rest) many
    pub stands : (left : Left) (events : List Event) → Stands lists old left events
        → (after : Left) × AreNext left (take many outs) after
        × Stands lists rest after (events ++ take many outs)

module _ (lists : PortLists) (old rest : Rest) (outs : List Event) where
  -- none are
  pub using_none : old ≡ rest → IsUsing lists old rest outs 0
  using_none same = record {
    within = omega arith;
    used = record { front = []; count = refl; after_is = ap used_of (sym same) };
    stands = λ left events s. (
      left,
      none,
      subst (λ w. Stands lists rest left w) (sym (append-nil events))
          (subst (λ w. Stands lists w left events) same s),
    );
  }

  -- one more is
  pub using_more : (new : Rest) (many next : ℕ) (e : Event) → IsUsing lists old rest outs many
      → slice_get outs many ≡ Some e → many < length outs → next ≡ suc many
      → UsedNext lists rest new e → IsUsing lists old new outs next
  using_more new many next e u is lt same n =
      let one : take next outs ≡ take many outs ++ e ∷ [] = ap (λ w. take w outs) same
      ∙ take_one outs many e is in
      record {
        within = omega arith;
        used = record {
          front = At n.port ∷ u.used.front;
          count = (let c = u.used.count in omega arith);
          after_is = n.used ∙ ap (λ w. At n.port ∷ w) u.used.after_is;
        };
        stands = λ left events s.
            let a = u.stands left events s in
            let b = n.stands a.0 (events ++ take many outs) a.2 in (
              b.0,
              subst (λ w. AreNext left w b.0) (sym one)
                  (next_behind left a.0 b.0 (take many outs) e a.1 b.1),
              subst (λ w. Stands lists new b.0 w)
                  (append_assoc events (take many outs) (e ∷ []) ∙ ap (λ w. events ++ w) (sym one))
                  b.2,
            );
      }

  -- the one behind them is not next
  pub using_ends : (many : ℕ) → IsUsing lists old rest outs many
      → ((e : Event) → slice_get outs many ≡ Some e → NotNext lists rest rest e)
      → (left : Left) (events : List Event) → Stands lists old left events
      → HasUsed lists rest left events outs many
  using_ends many u other left events s =
      let a = u.stands left events s in
      record {
        after = a.0;
        next = a.1;
        stands = a.2;
        no_more = λ e beyond is n. (other e is).not a.0 beyond (events ++ take many outs) a.2 n;
      }

  -- the next one, as it is read, is used up too
  pub using_steps : (new : Rest) (many : ℕ) (x : Event) → IsUsing lists old rest outs many
      → many < length outs → get_or outs many x ≡ x → UsedNext lists rest new x
      → IsUsing lists old new outs (many + 1)
  using_steps new many x u lt is n =
      using_more new many (many + 1) x u (item_at outs many x lt is) lt (omega arith) n

  -- or it is not the next one of its port
  pub using_stops : (new : Rest) (many : ℕ) (x : Event) → IsUsing lists old rest outs many
      → get_or outs many x ≡ x → NotNext lists rest new x
      → (left : Left) (events : List Event) → Stands lists old left events
      → HasUsed lists new left events outs many
  using_stops new many x u is n left events s =
      let other : (e : Event) → slice_get outs many ≡ Some e → NotNext lists rest rest e = λ e at.
      let same : e ≡ x = item_there outs many e x at is in
      record {
        same = refl;
        not = λ l after es st next.
            n.not l after es st (subst (λ w. IsNextAt l w after) same next);
      } in
      subst (λ w. HasUsed lists w left events outs many) (sym n.same)
      (using_ends many u other left events s)

  -- or there is none
  pub using_all : (many : ℕ) → IsUsing lists old rest outs many → length outs ≤ many
      → (left : Left) (events : List Event) → Stands lists old left events
      → HasUsed lists rest left events outs many
  using_all many u le left events s =
      using_ends many u (λ e at. let lt = get_below outs many e at in
      let never : ⊥ = omega arith in absurd never) left events s
