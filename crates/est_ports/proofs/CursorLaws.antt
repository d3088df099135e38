-- What is left of lists that are cut at cursors.
use Rattle.std.proofs.Common.{◌≡◌, ◌≤◌, ◌<◌, ℕ, zero, suc, List, [], ◌∷◌, length, drop}
use Rattle.std.proofs.Common.{Some, None, refl, sym, ap, subst, ◌∙◌, arith}
use Rattle.std.proofs.lemmas.List.{length-drop}
use Rattle.std.specs.Prelude.{slice_get, slice_set}
use Rattle.est_meaning.specs.declared.event.Event.{Event}
use Rattle.mean_ports.specs.Merges.{AreUsedUp}
use Rattle.est_ports.specs.inside.Cursors.{cut, starts, ends, AreWithin, first_at}

-- LISTS FROM A PLACE ON

-- the item at a place is the first one from there on
pub get_drop : {X : Type 0} (xs : List X) (n : ℕ) → slice_get (drop n xs) 0 ≡ slice_get xs n
get_drop [] zero = refl
get_drop [] (suc n) = refl
get_drop (x ∷ xs) zero = refl
get_drop (x ∷ xs) (suc n) = get_drop xs n

-- so it begins what is left there
pub drop_begins : {X : Type 0} (xs : List X) (n : ℕ) (x : X) → slice_get xs n ≡ Some x
    → drop n xs ≡ x ∷ drop (suc n) xs
drop_begins [] n x h = (let never : ⊥ = cc in absurd never)
drop_begins (y ∷ xs) zero x h = (let same : y ≡ x = cc in ap (λ w. w ∷ xs) same)
drop_begins (y ∷ xs) (suc n) x h = drop_begins xs n x h

-- an item and what is behind it
pub record IsCut {X : Type 0} (xs : List X) (n : ℕ) (x : X) (rest : List X) : Type 0 where
  pub item : slice_get xs n ≡ Some x
  pub behind : rest ≡ drop (suc n) xs

-- what begins from a place on stands at that place
pub drop_item : {X : Type 0} (xs : List X) (n : ℕ) (x : X) (rest : List X)
    → drop n xs ≡ x ∷ rest → IsCut xs n x rest
drop_item [] zero x rest h = (let never : ⊥ = cc in absurd never)
drop_item [] (suc n) x rest h = (let never : ⊥ = cc in absurd never)
drop_item (y ∷ xs) zero x rest h =
    let same : y ≡ x = cc in
    let behind : xs ≡ rest = cc in
    record { item = ap Some same; behind = sym behind }
drop_item (y ∷ xs) (suc n) x rest h =
    (let o = drop_item xs n x rest h in record { item = o.item; behind = o.behind })

-- an item stands below the end
pub get_below : {X : Type 0} (xs : List X) (n : ℕ) (x : X) → slice_get xs n ≡ Some x
    → n < length xs
get_below [] n x h = (let never : ⊥ = cc in absurd never)
get_below (y ∷ xs) zero x h = omega arith
get_below (y ∷ xs) (suc n) x h = (let lt = get_below xs n x h in omega arith)

-- below the end an item stands
pub get_some : {X : Type 0} (xs : List X) (n : ℕ) → n < length xs
    → (x : X) × (slice_get xs n ≡ Some x)
get_some [] n lt = (let never : ⊥ = omega arith in absurd never)
get_some (y ∷ xs) zero lt = (y, refl)
get_some (y ∷ xs) (suc n) lt = get_some xs n (omega arith)

-- an item that was written, where one stood
pub get_set : {X : Type 0} (xs : List X) (n : ℕ) (x y : X) → slice_get xs n ≡ Some x
    → slice_get (slice_set xs n y) n ≡ Some y
get_set [] n x y h = (let never : ⊥ = cc in absurd never)
get_set (z ∷ xs) zero x y h = refl
get_set (z ∷ xs) (suc n) x y h = get_set xs n x y h

-- written over once more, it is as it was
pub set_back : {X : Type 0} (xs : List X) (n : ℕ) (x y : X) → slice_get xs n ≡ Some x
    → slice_set (slice_set xs n y) n x ≡ xs
set_back [] n x y h = (let never : ⊥ = cc in absurd never)
set_back (z ∷ xs) zero x y h = (let same : z ≡ x = cc in ap (λ w. w ∷ xs) (sym same))
set_back (z ∷ xs) (suc n) x y h = ap (λ w. z ∷ w) (set_back xs n x y h)

-- THE NEXT EVENTS

-- where there is no cursor, nothing is next
pub no_cursor : (cs : List ℕ) (ls : List (List Event)) (port : ℕ) → slice_get cs port ≡ None
    → first_at (cut cs ls) port ≡ None
no_cursor [] ls port h = refl
no_cursor (n ∷ cs) [] port h = refl
no_cursor (n ∷ cs) (es ∷ ls) zero h = (let never : ⊥ = cc in absurd never)
no_cursor (n ∷ cs) (es ∷ ls) (suc port) h = no_cursor cs ls port h

-- nor where there is no list
pub no_list : (cs : List ℕ) (ls : List (List Event)) (port : ℕ) → slice_get ls port ≡ None
    → first_at (cut cs ls) port ≡ None
no_list [] ls port h = refl
no_list (n ∷ cs) [] port h = refl
no_list (n ∷ cs) (es ∷ ls) zero h = (let never : ⊥ = cc in absurd never)
no_list (n ∷ cs) (es ∷ ls) (suc port) h = no_list cs ls port h

-- the next event of a list stands at its cursor
pub first_cut : (cs : List ℕ) (ls : List (List Event)) (port at : ℕ) (es : List Event)
    → slice_get cs port ≡ Some at → slice_get ls port ≡ Some es
    → first_at (cut cs ls) port ≡ slice_get es at
first_cut [] ls port at es a b = (let never : ⊥ = cc in absurd never)
first_cut (n ∷ cs) [] port at es a b = (let never : ⊥ = cc in absurd never)
first_cut (n ∷ cs) (fs ∷ ls) zero at es a b =
    let same : n ≡ at = cc in
    let list : fs ≡ es = cc in
    get_drop fs n ∙ ap (λ w. slice_get fs w) same ∙ ap (λ w. slice_get w at) list
first_cut (n ∷ cs) (fs ∷ ls) (suc port) at es a b = first_cut cs ls port at es a b

-- where a list has a first event, it begins with it
pub first_begins : (ls : List (List Event)) (port : ℕ) (e : Event) → first_at ls port ≡ Some e
    → (rest : List Event) × (slice_get ls port ≡ Some (e ∷ rest))
first_begins [] port e h = (let never : ⊥ = cc in absurd never)
first_begins ([] ∷ ls) zero e h = (let never : ⊥ = cc in absurd never)
first_begins ((f ∷ fs) ∷ ls) zero e h =
    (let same : f ≡ e = cc in (fs, ap (λ w. Some (w ∷ fs)) same))
first_begins (es ∷ ls) (suc port) e h = first_begins ls port e h

-- and the other way round
pub begins_first : (ls : List (List Event)) (port : ℕ) (e : Event) (rest : List Event)
    → slice_get ls port ≡ Some (e ∷ rest) → first_at ls port ≡ Some e
begins_first [] port e rest h = (let never : ⊥ = cc in absurd never)
begins_first (es ∷ ls) zero e rest h =
    (let same : es ≡ e ∷ rest = cc in ap (λ w. slice_get w 0) same)
begins_first (es ∷ ls) (suc port) e rest h = begins_first ls port e rest h

-- a list from its cursor on, which begins with an event
pub record IsCutAt (cs : List ℕ) (ls : List (List Event)) (port : ℕ) (e : Event)
    (rest : List Event) : Type 0 where
  pub at : ℕ
  pub list : List Event
  pub cursor_is : slice_get cs port ≡ Some at
  pub list_is : slice_get ls port ≡ Some list
  pub event_is : slice_get list at ≡ Some e
  pub rest_is : rest ≡ drop (suc at) list

pub cut_at : (cs : List ℕ) (ls : List (List Event)) (port : ℕ) (e : Event) (rest : List Event)
    → slice_get (cut cs ls) port ≡ Some (e ∷ rest) → IsCutAt cs ls port e rest
cut_at [] ls port e rest h = (let never : ⊥ = cc in absurd never)
cut_at (n ∷ cs) [] port e rest h = (let never : ⊥ = cc in absurd never)
cut_at (n ∷ cs) (es ∷ ls) zero e rest h =
    let begins : drop n es ≡ e ∷ rest = cc in
    let o = drop_item es n e rest begins in
    record {
      at = n;
      list = es;
      cursor_is = refl;
      list_is = refl;
      event_is = o.item;
      rest_is = o.behind;
    }
cut_at (n ∷ cs) (es ∷ ls) (suc port) e rest h =
    let o = cut_at cs ls port e rest h in
    record {
      at = o.at;
      list = o.list;
      cursor_is = o.cursor_is;
      list_is = o.list_is;
      event_is = o.event_is;
      rest_is = o.rest_is;
    }

-- a list from its cursor on
pub cut_begins : (cs : List ℕ) (ls : List (List Event)) (port at : ℕ) (es : List Event) (e : Event)
    → slice_get cs port ≡ Some at → slice_get ls port ≡ Some es → slice_get es at ≡ Some e
    → slice_get (cut cs ls) port ≡ Some (e ∷ drop (suc at) es)
cut_begins [] ls port at es e a b h = (let never : ⊥ = cc in absurd never)
cut_begins (n ∷ cs) [] port at es e a b h = (let never : ⊥ = cc in absurd never)
cut_begins (n ∷ cs) (fs ∷ ls) zero at es e a b h =
    let same : n ≡ at = cc in
    let list : fs ≡ es = cc in
    ap Some (ap (λ w. drop w fs) same ∙ ap (λ w. drop at w) list ∙ drop_begins es at e h)
cut_begins (n ∷ cs) (fs ∷ ls) (suc port) at es e a b h = cut_begins cs ls port at es e a b h

-- lists where one cursor is another
pub cut_set : (cs : List ℕ) (ls : List (List Event)) (port n : ℕ) (es : List Event)
    → slice_get ls port ≡ Some es
    → slice_set (cut cs ls) port (drop n es) ≡ cut (slice_set cs port n) ls
cut_set [] ls port n es h = refl
cut_set (m ∷ cs) [] port n es h = (let never : ⊥ = cc in absurd never)
cut_set (m ∷ cs) (fs ∷ ls) zero n es h =
    (let list : fs ≡ es = cc in ap (λ w. drop n w ∷ cut cs ls) (sym list))
cut_set (m ∷ cs) (fs ∷ ls) (suc port) n es h =
    ap (λ w. drop m fs ∷ w) (cut_set cs ls port n es h)

-- NOTHING IS LEFT

-- no list is longer than the cursors
pub cut_length : (cs : List ℕ) (ls : List (List Event)) → length (cut cs ls) ≤ length cs
cut_length [] ls = omega arith
cut_length (n ∷ cs) [] = omega arith
cut_length (n ∷ cs) (es ∷ ls) = (let le = cut_length cs ls in omega arith)

-- a list without a first event has none
empty : (es : List Event) → slice_get es 0 ≡ None → es ≡ []
empty [] h = refl
empty (e ∷ es) h = (let never : ⊥ = cc in absurd never)

-- lists of which no event is next are used up
pub all_empty : (ls : List (List Event))
    → ((port : ℕ) → port < length ls → first_at ls port ≡ None) → AreUsedUp ls
all_empty [] h k d lt = (let never : ⊥ = omega arith in absurd never)
all_empty (es ∷ ls) h zero d lt = empty es (h 0 (omega arith))
all_empty (es ∷ ls) h (suc k) d lt =
    all_empty ls (λ port l. h (suc port) (omega arith)) k d (omega arith)

-- and the other way round
pub none_first : (ls : List (List Event)) (port : ℕ) → AreUsedUp ls → first_at ls port ≡ None
none_first [] port a = refl
none_first (es ∷ ls) zero a =
    (let no : es ≡ [] = a 0 es (omega arith) in ap (λ w. slice_get w 0) no)
none_first (es ∷ ls) (suc port) a =
    none_first ls port (λ k d lt. a (suc k) d (omega arith))

-- where nothing is used up, the lists are whole
pub cut_starts : (ls : List (List Event)) → cut (starts ls) ls ≡ ls
cut_starts [] = refl
cut_starts (es ∷ ls) = ap (λ w. es ∷ w) (cut_starts ls)

-- nothing is left of a list behind its end
drop_end : (es : List Event) → drop (length es) es ≡ []
drop_end [] = refl
drop_end (e ∷ es) = drop_end es

-- where the cursors are at the ends, nothing is left
pub cut_ends : (ls : List (List Event)) → AreUsedUp (cut (ends ls) ls)
cut_ends [] k d lt = (let never : ⊥ = omega arith in absurd never)
cut_ends (es ∷ ls) zero d lt = drop_end es
cut_ends (es ∷ ls) (suc k) d lt = cut_ends ls k d (omega arith)

-- and the other way round
pub ended : (cs : List ℕ) (ls : List (List Event)) → AreWithin cs ls → AreUsedUp (cut cs ls)
    → cs ≡ ends ls
ended [] [] w u = refl
ended [] (es ∷ ls) w u = absurd w
ended (n ∷ cs) [] w u = absurd w
ended (n ∷ cs) (es ∷ ls) w u =
    let none : drop n es ≡ [] = u 0 [] (omega arith) in
    let len : length (drop n es) ≡ 0 = ap length none in
    let le = w.0 in
    let first : n ≡ length es = omega (arith, length-drop n es) in
    let rest : cs ≡ ends ls = ended cs ls w.1 (λ k d lt. u (suc k) d (omega arith)) in
    ap (λ x. x ∷ cs) first ∙ ap (λ x. length es ∷ x) rest

-- WITHIN THE LISTS

pub within_starts : (ls : List (List Event)) → AreWithin (starts ls) ls
within_starts [] = tt
within_starts (es ∷ ls) = (omega arith, within_starts ls)

pub within_set : (cs : List ℕ) (ls : List (List Event)) (port n : ℕ) (es : List Event)
    → AreWithin cs ls → slice_get ls port ≡ Some es → n ≤ length es
    → AreWithin (slice_set cs port n) ls
within_set [] [] port n es w h le = tt
within_set [] (fs ∷ ls) port n es w h le = absurd w
within_set (m ∷ cs) [] port n es w h le = absurd w
within_set (m ∷ cs) (fs ∷ ls) zero n es w h le =
    (let list : es ≡ fs = cc in (subst (λ x. n ≤ length x) list le, w.1))
within_set (m ∷ cs) (fs ∷ ls) (suc port) n es w h le =
    (w.0, within_set cs ls port n es w.1 h le)
