-- What the functions on cursors answer.
use Rattle.std.proofs.Common.{◌≡◌, ◌≤◌, ◌<◌, ℕ, zero, suc, List, [], ◌∷◌, length, drop}
use Rattle.std.proofs.Common.{get_or, Option, Some, None, true, false, refl, sym, ap, ◌∙◌, arith}
use Rattle.std.specs.Prelude.{◌↔◌, IsTrue, slice_get}
use Rattle.est_meaning.specs.declared.event.Event.{Event}
use Rattle.mean_ports.specs.declared.lists.PortLists.{PortLists}
use Rattle.mean_ports.specs.Merges.{AreUsedUp}
use Rattle.mean_ports.specs.PortRuns.{all_left}
use Rattle.est_ports.specs.inside.Cursors.{cut, first_at}
use Rattle.est_ports.specs.inside.Leftover.{lists_of}
use Rattle.est_ports.proofs.CursorLaws.{drop_begins, none_first, all_empty, cut_length}

-- where nothing stands, nothing is left
none_past : {X : Type 0} (xs : List X) (n : ℕ) → slice_get xs n ≡ None → drop n xs ≡ []
none_past [] zero h = refl
none_past [] (suc n) h = refl
none_past (x ∷ xs) zero h = (let never : ⊥ = cc in absurd never)
none_past (x ∷ xs) (suc n) h = none_past xs n h

-- the lists of a phase that there is
pub lists_there : (lists : PortLists) (phase : ℕ) (p : List (List Event))
    → slice_get lists.phases phase ≡ Some p → p ≡ lists_of lists phase
lists_there lists phase p h = sym (ap (λ w. (all_left w (drop phase lists.times)).now)
    (drop_begins lists.phases phase p h))

-- and past the last one
pub no_lists : (lists : PortLists) (phase : ℕ) → slice_get lists.phases phase ≡ None
    → [] ≡ lists_of lists phase
no_lists lists phase h = sym (ap (λ w. (all_left w (drop phase lists.times)).now)
    (none_past lists.phases phase h))

-- the item that is read at a place
pub read_item : {X : Type 0} (xs : List X) (n : ℕ) (x d : X) → slice_get xs n ≡ Some x
    → get_or xs n d ≡ x
read_item [] n x d h = (let never : ⊥ = cc in absurd never)
read_item (y ∷ xs) zero x d h = (let same : y ≡ x = cc in same)
read_item (y ∷ xs) (suc n) x d h = read_item xs n x d h

-- an event is next
pub not_used : (cs : List ℕ) (ls : List (List Event)) (port : ℕ) (e : Event)
    → first_at (cut cs ls) port ≡ Some e → (IsTrue false ↔ AreUsedUp (cut cs ls))
not_used cs ls port e h = (
  (λ t. let never : ⊥ = cc in absurd never),
  (λ a. let none = none_first (cut cs ls) port a in let never : ⊥ = cc in absurd never),
)

-- none is
pub all_used : (cs : List ℕ) (ls : List (List Event)) (n : ℕ)
    → ((k : ℕ) → k < n → first_at (cut cs ls) k ≡ None) → length cs ≤ n
    → (IsTrue true ↔ AreUsedUp (cut cs ls))
all_used cs ls n h le = (
  (λ t. all_empty (cut cs ls) (λ port lt. h port
      (let short = cut_length cs ls in omega arith))),
  (λ a. refl),
)

-- the next event of lists that are read so
pub next_there : (cs other : List ℕ) (ls lists : List (List Event)) (port : ℕ) (o : Option Event)
    → cs ≡ other → ls ≡ lists → o ≡ first_at (cut cs ls) port
    → first_at (cut other lists) port ≡ o
next_there cs other ls lists port o a b h =
    ap (λ w. first_at (cut other w) port) (sym b) ∙ ap (λ w. first_at (cut w ls) port) (sym a)
    ∙ sym h

-- past the end nothing stands
pub past_end : {X : Type 0} (xs : List X) (n : ℕ) → length xs ≤ n → slice_get xs n ≡ None
past_end [] n le = refl
past_end (x ∷ xs) zero le = (let never : ⊥ = omega arith in absurd never)
past_end (x ∷ xs) (suc n) le = past_end xs n (omega arith)

-- below it what is read there does
pub read_there : {X : Type 0} (xs : List X) (n : ℕ) (x : X) → n < length xs → x ≡ get_or xs n x
    → slice_get xs n ≡ Some x
read_there [] n x lt r = (let never : ⊥ = omega arith in absurd never)
read_there (z ∷ xs) zero x lt r = ap Some (sym r)
read_there (z ∷ xs) (suc n) x lt r = read_there xs n x (omega arith) r

-- below it the number that is read there does
pub read_number : (xs : List ℕ) (n : ℕ) → n < length xs → slice_get xs n ≡ Some (get_or xs n 0)
read_number [] n lt = (let never : ⊥ = omega arith in absurd never)
read_number (x ∷ xs) zero lt = refl
read_number (x ∷ xs) (suc n) lt = read_number xs n (omega arith)

-- below the end nothing hangs on what stands past it
pub read_same : {X : Type 0} (xs : List X) (n : ℕ) (d e : X) → n < length xs
    → get_or xs n d ≡ get_or xs n e
read_same [] n d e lt = (let never : ⊥ = omega arith in absurd never)
read_same (x ∷ xs) zero d e lt = refl
read_same (x ∷ xs) (suc n) d e lt = read_same xs n d e (omega arith)
