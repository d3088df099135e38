-- Links and queues are those of living instances.
use Rattle.std.specs.Prelude.{◌≡◌, ℕ, true, false, List, [], Some, is_some, find}
use Rattle.std.specs.Prelude.{◌⊎◌}
use Rattle.std.specs.List.{AllByRecursion}
use Rattle.est_syntax.specs.declared.expression.Access.{Access}
use Rattle.est_syntax.specs.declared.expression.Expr.{Expr}
use Rattle.est_syntax.specs.declared.name.Used.{Used}
use Rattle.est_syntax.specs.declared.statement.Statement.{Statement}
use Rattle.est_syntax.specs.declared.statement.Statement.TheVariants.{Init}
use Rattle.mean_blocks.specs.declared.situation.InteractionPoint.{InteractionPoint}
use Rattle.mean_blocks.specs.declared.situation.Item.{Item}
use Rattle.mean_blocks.specs.declared.situation.Row.{Row}
use Rattle.mean_blocks.specs.Outcome.{Done}
use Rattle.mean_blocks.specs.TextByPlace.{Text}
use Rattle.mean_blocks.specs.GlobalSituation.{Frame, Map, QueueName, Situation, is_numbered}
use Rattle.mean_blocks.specs.InstanceEffects.{owner}
use Rattle.mean_blocks.specs.KeepingLaws.{AreNumbered}
use Rattle.mean_blocks.specs.OutputEffects.{Sent}
use Rattle.mean_blocks.specs.StartMeaning.{start_before}
use Rattle.mean_blocks.specs.WorkingState.{State}
use Rattle.mean_blocks.specs.StatementEffects.{statements_in}
use Rattle.mean_blocks.specs.BlockLevels.{site}
use Rattle.law_runs.specs.UpkeepLaws.{OnDone, IsPlain}
use Rattle.law_runs.specs.AncestorLaws.{IsRowOf, AreInAge}

-- an instance lives, which has one of these rows
abbrev pub IsLiving : List Row → ℕ → Type 0
IsLiving rs n = is_some (find (is_numbered n) rs) ≡ true

-- both ends of each link are interaction points of living instances
abbrev pub LinkTheLiving : List Row → Map InteractionPoint InteractionPoint → Type 0
LinkTheLiving rs m = (p q : InteractionPoint) → m p ≡ Some q
    → IsLiving rs p.instance × IsLiving rs q.instance

-- items wait in queues of living instances alone
abbrev pub WaitAtTheLiving : List Row → (QueueName → List Item) → Type 0
WaitAtTheLiving rs queues = (q : QueueName) → is_some (find (is_numbered (owner q)) rs) ≡ false
    → queues q ≡ []

-- the parent of each instance lives, but that of the root is number 0
abbrev pub ParentsLive : List Row → Type 0
ParentsLive rs = (r : Row) → IsRowOf rs r → (r.parent ≡ 0) ⊎ IsLiving rs r.parent

-- Instances are numbered, in their age, and have living parents; connections and attachments link
-- living instances, and items wait at them.
pub record IsOrderly (s : Situation) : Type 0 where
  pub numbers : AreNumbered s
  pub age : AreInAge s.rows
  pub parents : ParentsLive s.rows
  pub connections : LinkTheLiving s.rows s.peer
  pub attachments : LinkTheLiving s.rows s.down
  pub items : WaitAtTheLiving s.rows s.queues

-- instance 1, the root, lives, and no other instance is without a parent
pub record IsRooted (rs : List Row) : Type 0 where
  pub alive : IsLiving rs 1
  pub alone : (r : Row) → IsRowOf rs r → r.parent ≡ 0 → r.number ≡ 1

-- an orderly situation with one root
pub record IsOneTree (s : Situation) : Type 0 where
  pub order : IsOrderly s
  pub root : IsRooted s.rows

-- no frame names an instance: only an `all` opens such a frame, for its turns
abbrev pub NameNone : List Frame → Type 0
NameNone fs = AllByRecursion IsPlain fs

-- Where a block of a living instance begins in an orderly situation, it leaves an orderly one, and
-- the instance lives: it releases neither itself nor an instance above it. Of the number 0, which
-- no instance has, nothing is said: the `init` of a specification is not covered.
abbrev pub SituationsStayOrderly : Type 0
SituationsStayOrderly = (t : Text) (n levels : ℕ) (xs : List Statement) (s : State)
    → IsLiving s.situation.rows n → NameNone s.frames → IsOrderly s.situation
    → OnDone (λ u. IsOrderly u.situation × IsLiving u.situation.rows n)
    (statements_in xs (site t n false levels) s)

-- The `init` of a specification, of which the number 0 executes the statement, leaves an orderly
-- situation with one root.
abbrev pub StartsAreOrderly : Type 0
StartsAreOrderly = (t : Text) (limit : ℕ) (target : Access) (body : Used) (arguments : List Expr)
    (place : ℕ) (x : Sent) → t.spec.first ≡ Init target body arguments place
    → start_before t limit ≡ Done tt x
    → IsOneTree x.situation
