-- How many items wait, and what changes of a situation make of their number.
use Rattle.std.specs.Prelude.{◌≡◌, ℕ, ◌+◌, Bool, false, true, List, [], ◌∷◌, length, Some, None}
use Rattle.std.specs.Prelude.{if◌then◌else◌}
use Rattle.std.specs.List.{sum_by, list_any}
use Rattle.mean_blocks.specs.declared.frame.Slot.{Slot}
use Rattle.mean_blocks.specs.declared.situation.Element.{Element}
use Rattle.mean_blocks.specs.declared.situation.InteractionPoint.{InteractionPoint}
use Rattle.mean_blocks.specs.declared.situation.Item.{Item}
use Rattle.mean_blocks.specs.TextByPlace.{Text}
use Rattle.mean_blocks.specs.GlobalSituation.{QueueName, Situation, is_queue}
use Rattle.mean_blocks.specs.InstancePoints.{external_of}
use Rattle.mean_blocks.specs.Attachments.{up}
use Rattle.mean_blocks.specs.QueueEffects.{head_at, without_head, moved}
use Rattle.mean_blocks.specs.OutputEffects.{Sent, arrived, delivered_at, is_outside, sent}
use Rattle.mean_blocks.specs.LinkEffects.{connected, attached, disconnected, detached_end, each}
use Rattle.mean_blocks.specs.InstanceEffects.{born, descendants, is_among, owner, released}
use Rattle.mean_blocks.specs.InstanceEffects.{untied, without}
use Rattle.mean_blocks.specs.KeepingLaws.{OnChange, BlocksKeep}
use Rattle.mean_blocks.specs.StartMeaning.{no_instances}

-- THE NUMBER OF ITEMS

-- the items of each queue
abbrev pub Queues : Type 0
Queues = QueueName → List Item

-- whether a queue is one of these
abbrev pub is_one_of : List QueueName → QueueName → Bool
is_one_of qs q = list_any (is_queue q) qs

-- no queue stands twice among these
abbrev pub AreDistinct : List QueueName → Type 0
AreDistinct [] = Unit {0}
AreDistinct (q ∷ qs) = (is_one_of qs q ≡ false) × AreDistinct qs

-- how many items wait in some of the queues
abbrev pub number_in : List QueueName → Queues → ℕ
number_in qs queues = sum_by (λ q. length (queues q)) qs

-- so many items wait in all queues together: in these, none of which stands twice, as all others
-- are empty
pub record IsNumberOf (queues : Queues) (n : ℕ) : Type 0 where
  pub names : List QueueName
  pub once : AreDistinct names
  pub others : (q : QueueName) → is_one_of names q ≡ false → queues q ≡ []
  pub total : number_in names queues ≡ n

-- so many items wait in a situation
abbrev pub HasItems : Situation → ℕ → Type 0
HasItems s n = IsNumberOf s.queues n

-- queues have no two numbers of items
abbrev pub ItemsHaveOneNumber : Type 0
ItemsHaveOneNumber = (queues : Queues) (m n : ℕ) → IsNumberOf queues m → IsNumberOf queues n
    → m ≡ n

-- none waits where there are no instances
abbrev pub NoneWaitsAtFirst : Type 0
NoneWaitsAtFirst = HasItems no_instances 0

-- CHANGES

-- as many items wait in a situation as in another one
abbrev pub HasAsMany : Situation → Situation → Type 0
HasAsMany s u = (n : ℕ) → HasItems s n → HasItems u n

-- one item more
abbrev pub HasOneMore : Situation → Situation → Type 0
HasOneMore s u = (n : ℕ) → HasItems s n → HasItems u (n + 1)

-- one item less
abbrev pub HasOneLess : Situation → Situation → Type 0
HasOneLess s u = (n : ℕ) → HasItems s n → (m : ℕ) × HasItems u m × (m + 1 ≡ n)

-- an arrival puts one item into a queue
abbrev pub ArrivalsPutOne : Type 0
ArrivalsPutOne = (t : Text) (p : InteractionPoint) (i : Item) (s : Situation)
    → HasOneMore s (arrived t p i s)

-- An output puts one item into a queue where its climb ends at a connection; else it leaves the
-- system at an external interaction point of the root, or is lost, and no queue is changed.
pub record OutputsPutOneOrNone : Type 0 where
  pub put : (t : Text) (i : Item) (x : Sent) (q : InteractionPoint)
      → x.situation.peer (up t x.situation i.at) ≡ Some q
      → HasOneMore x.situation (sent t i x).situation × ((sent t i x).outs ≡ x.outs)
  pub left : (t : Text) (i : Item) (x : Sent) → x.situation.peer (up t x.situation i.at) ≡ None
      → is_outside t x.situation (up t x.situation i.at) ≡ true
      → ((sent t i x).situation ≡ x.situation) × (length (sent t i x).outs ≡ length x.outs + 1)
  pub lost : (t : Text) (i : Item) (x : Sent) → x.situation.peer (up t x.situation i.at) ≡ None
      → is_outside t x.situation (up t x.situation i.at) ≡ false → sent t i x ≡ x

-- Where an item is taken, one less waits; where there is none, as many.
pub record TakingLeavesOneLess : Type 0 where
  pub taken : (t : Text) (p : InteractionPoint) (s : Situation) (i : Item)
      → head_at t p s ≡ Some i → HasOneLess s (without_head t p s)
  pub none : (t : Text) (p : InteractionPoint) (s : Situation) → head_at t p s ≡ None
      → HasAsMany s (without_head t p s)

-- Links that are made or undone may move items, and leave as many.
pub record LinksMoveItems : Type 0 where
  pub connects : (t : Text) (p q : InteractionPoint) (s : Situation)
      → OnChange HasAsMany s (connected t p q s)
  pub attaches : (t : Text) (e c : InteractionPoint) (s : Situation)
      → OnChange HasAsMany s (attached t e c s)
  pub disconnects : (p : InteractionPoint) (s : Situation) → HasAsMany s (disconnected p s)
  pub detaches : (t : Text) (n : ℕ) (p : InteractionPoint) (s : Situation)
      → HasAsMany s (detached_end t n p s)

-- Where an instance is begun, as many items wait.
abbrev pub BeginningsKeepItems : Type 0
BeginningsKeepItems = (t : Text) (parent : ℕ) (e : Element) (body : ℕ) (xs : List Slot)
    (s : Situation) → OnChange HasAsMany s (born t parent e body xs s)

-- the items in the queues of these instances
abbrev pub items_at : List ℕ → Queues → Queues
items_at ns queues = λ q. if is_among ns (owner q) then queues q else []

-- the situation in which the external interaction points of an instance are untied
abbrev pub loose : Text → ℕ → Situation → Situation
loose t n s = each (untied t) (external_of t.outline s n) s

-- The items that go with a released child are those in its queues and in those of its descendants,
-- once it is untied: those at its attached interaction points have come back to its parent by then.
abbrev pub ReleasesLoseTheirItems : Type 0
ReleasesLoseTheirItems = (t : Text) (n : ℕ) (s : Situation) (m : ℕ) → HasItems s m
    → (k : ℕ) × (rest : ℕ)
    × IsNumberOf (items_at (descendants (n ∷ []) (loose t n s).rows) (loose t n s).queues) k
    × HasItems (released t n s) rest × (rest + k ≡ m)

-- CHANGES IN A ROW

-- A situation becomes another one by changes one after the other, of which so many put an item into
-- a queue and so many take one, and by which so many items go with their instances.
pub data Becomes : ℕ → ℕ → ℕ → Situation → Situation → Type 0 where
  rests : (s u : Situation) → ((q : QueueName) → u.queues q ≡ s.queues q) → Becomes 0 0 0 s u
  puts : (t : Text) (p : InteractionPoint) (i : Item) (s : Situation)
      → Becomes 1 0 0 s (delivered_at t p i s)
  takes : (t : Text) (p : InteractionPoint) (i : Item) (s : Situation) → head_at t p s ≡ Some i
      → Becomes 0 1 0 s (without_head t p s)
  moves : (t : Text) (p q : InteractionPoint) (s : Situation) → Becomes 0 0 0 s (moved t p q s)
  loses : (ns : List ℕ) (k : ℕ) (s : Situation) → IsNumberOf (items_at ns s.queues) k
      → Becomes 0 0 k s (without ns s)
  after : (a b c d e f : ℕ) (r s u : Situation) → Becomes a b c r s → Becomes d e f s u
      → Becomes (a + d) (b + e) (c + f) r u

-- The number of items is what it was, and what was put, less what was taken and what went.
abbrev pub ChangesAddUp : Type 0
ChangesAddUp = (put taken gone : ℕ) (s u : Situation) (n : ℕ) → Becomes put taken gone s u
    → HasItems s n → (m : ℕ) × HasItems u m × (m + taken + gone ≡ n + put)

-- a situation in which a number of items wait becomes another one by changes that take none
abbrev pub TakesNone : Situation → Situation → Type 0
TakesNone s u = (n : ℕ) → HasItems s n → (put : ℕ) × (gone : ℕ) × Becomes put 0 gone s u

-- what a block does takes no item: it puts items, moves them, or lets them go with their instances
abbrev pub BlocksTakeNone : Type 0
BlocksTakeNone = BlocksKeep TakesNone
