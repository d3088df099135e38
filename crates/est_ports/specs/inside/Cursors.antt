-- How far each list of a phase is used up.
use Rattle.std.specs.Prelude.{◌≡◌, ℕ, zero, suc, ◌≤◌, List, [], ◌∷◌, Option, None, map, length}
use Rattle.std.specs.Prelude.{drop, slice_get}
use Rattle.est_meaning.specs.declared.event.Event.{Event}
use Rattle.est_meaning.specs.declared.event.Event.TheVariants as event

-- each list without so many of its first events
abbrev pub cut : List ℕ → List (List Event) → List (List Event)
cut [] lists = []
cut (n ∷ cursors) [] = []
cut (n ∷ cursors) (es ∷ lists) = drop n es ∷ cut cursors lists

-- nothing of the lists is used up
abbrev pub starts : List (List Event) → List ℕ
starts lists = map (λ (es : List Event). 0) lists

-- all of each list is used up
abbrev pub ends : List (List Event) → List ℕ
ends lists = map (λ (es : List Event). length es) lists

-- no cursor is past the end of its list
abbrev pub AreWithin : List ℕ → List (List Event) → Type 0
AreWithin [] [] = Unit {0}
AreWithin [] (es ∷ lists) = ⊥
AreWithin (n ∷ cursors) [] = ⊥
AreWithin (n ∷ cursors) (es ∷ lists) = (n ≤ length es) × AreWithin cursors lists

-- the first event of the list with this number
abbrev pub first_at : List (List Event) → ℕ → Option Event
first_at [] port = None
first_at (es ∷ lists) zero = slice_get es 0
first_at (es ∷ lists) (suc port) = first_at lists port

-- the event is an arrival at this port
abbrev pub IsArrivalAt : ℕ → Event → Type 0
IsArrivalAt port (event.Arrives i) = i.port ≡ port
IsArrivalAt port (event.Leaves i) = ⊥
IsArrivalAt port (event.Passes units) = ⊥
