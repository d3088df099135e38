-- The situation of a system: what its instances, links, queues and clock are at one moment (ISO
-- 9074, 5: global situations).
--
-- Instances are known by their numbers, and whatever has a name by the place where it is declared.
use Rattle.std.specs.Prelude.{ℕ, Bool, false, ◌&&◌, nat_eq, List, [], ◌∷◌, find, Option, Some}
use Rattle.std.specs.Prelude.{is_some, option_and_then, if◌then◌else◌}
use Rattle.std.specs.Ordering.{int_eq}
use Rattle.std.specs.Cmp.Lexicographic.{pointwise}
use Rattle.mean_blocks.specs.declared.frame.Binding.{Binding}
use Rattle.mean_blocks.specs.declared.situation.Element.{Element}
use Rattle.mean_blocks.specs.declared.situation.Holding.{Holding}
use Rattle.mean_blocks.specs.declared.situation.Row.{Row}
use Rattle.mean_blocks.specs.declared.situation.InteractionPoint.{InteractionPoint}
use Rattle.mean_blocks.specs.declared.situation.Item.{Item}

-- for each key some thing, or none
abbrev pub Map : Type 0 → Type 0 → Type 0
Map Key Thing = Key → Option Thing

-- names that are declared together, with what stands under them
abbrev pub Frame : Type 0
Frame = List Binding

-- whether both are one interaction point
abbrev pub is_point : InteractionPoint → InteractionPoint → Bool
is_point a b = nat_eq a.instance b.instance
    && (nat_eq a.declared b.declared && pointwise int_eq a.index b.index)

-- a queue: that of one interaction point, or the common one of an instance (ISO 9074, 5: queues)
pub data QueueName : Type 0 where
  Own : InteractionPoint → QueueName
  Shared : ℕ → QueueName

-- whether both are one queue
abbrev pub is_queue : QueueName → QueueName → Bool
is_queue (Own a) (Own b) = is_point a b
is_queue (Own a) (Shared n) = false
is_queue (Shared m) (Own b) = false
is_queue (Shared m) (Shared n) = nat_eq m n

-- whether both are one element of a module variable
abbrev pub is_element : Element → Element → Bool
is_element a b = nat_eq a.declared b.declared && pointwise int_eq a.index b.index

-- a transition of an instance, by its number in the body, counted from 1, which may wait for its
-- delay (ISO 9074, delay-clause)
pub record Clocked : Type 0 where
  pub instance : ℕ
  pub transition : ℕ

-- the situation
pub record Situation : Type 0 where
  -- a row for each living instance, in ascending number
  pub rows : List Row
  -- both directions of each connection
  pub peer : Map InteractionPoint InteractionPoint
  -- from a parent's interaction point to that of a child which is attached to it
  pub down : Map InteractionPoint InteractionPoint
  -- the items of each queue in order
  pub queues : QueueName → List Item
  -- since when a delay transition is enabled, or when it fired last, if that was later
  pub stamps : Map Clocked ℕ
  pub clock : ℕ
  -- the number of the next instance
  pub next : ℕ

-- a list of which the first thing that passes a test is changed
abbrev pub first_changed : {A : Type 0} → (A → Bool) → (A → A) → List A → List A
first_changed test change [] = []
first_changed test change (x ∷ xs) =
    if test x then change x ∷ xs else x ∷ first_changed test change xs

-- whether a row is that of an instance
abbrev pub is_numbered : ℕ → Row → Bool
is_numbered number r = nat_eq number r.number

-- the row of a living instance
abbrev pub row_of : Situation → ℕ → Option Row
row_of s number = find (is_numbered number) s.rows

-- whether an instance lives
abbrev pub lives : Situation → ℕ → Bool
lives s number = is_some (row_of s number)

-- the situation in which the row of one instance is changed
abbrev pub with_row : ℕ → (Row → Row) → Situation → Situation
with_row number change s = record s { rows = first_changed (is_numbered number) change s.rows }

-- whether a holding is that of an element
abbrev pub is_holding : Element → Holding → Bool
is_holding e h = is_element e h.element

-- the number of the instance that an element of a module variable was given last, if it was
abbrev pub held : Element → List Holding → Option ℕ
held e hs = option_and_then (λ (h : Holding). h.number) (find (is_holding e) hs)

-- holdings of which that of one element is another instance
abbrev pub holding : Element → ℕ → List Holding → List Holding
holding e n hs = first_changed (is_holding e) (λ (h : Holding). record h { number = Some n }) hs

-- the situation in which a queue has these items
abbrev pub with_queue : QueueName → List Item → Situation → Situation
with_queue queue items s = record s { queues = λ q. if is_queue queue q then items else s.queues q }
