-- The `init` of a specification begins the root from no instance at all.
use Rattle.std.proofs.Common.{◌≡◌, refl, sym, ap, subst, arith, ℕ, ◌<◌, nat_lt}
use Rattle.std.proofs.Common.{Bool, true, false, List, [], ◌∷◌, Option, Some, None, Result}
use Rattle.std.proofs.Common.{Ok, Err, inl, inr}
use Rattle.std.specs.Prelude.{if◌then◌else◌, ◌⊎◌}
use Rattle.est_syntax.specs.declared.body.Body.{out-Body}
use Rattle.est_syntax.specs.declared.expression.Access.{Access}
use Rattle.est_syntax.specs.declared.expression.Expr.{Expr}
use Rattle.est_syntax.specs.declared.name.Used.{Used}
use Rattle.est_syntax.specs.declared.statement.Statement.{Statement}
use Rattle.est_syntax.specs.declared.statement.Statement.TheVariants as statement
use Rattle.mean_blocks.specs.declared.fault.BlockFault.{BlockFault}
use Rattle.mean_blocks.specs.declared.fault.BlockFault.TheVariants.{TooMany}
use Rattle.mean_blocks.specs.declared.situation.Element.{Element}
use Rattle.mean_blocks.specs.declared.situation.Row.{Row}
use Rattle.mean_blocks.specs.Outcome.{Outcome, Done, Fault, Limit, onward, ◌>>=◌, ◌>>◌, give}
use Rattle.mean_blocks.specs.Outcome.{known, counted, on_ok}
use Rattle.mean_blocks.specs.TextByPlace.{Text, body_at}
use Rattle.mean_blocks.specs.GlobalSituation.{Frame, Situation, with_row}
use Rattle.mean_blocks.specs.NamesInRuns.{declared_at}
use Rattle.mean_blocks.specs.WorkingState.{State, Does, view, counting}
use Rattle.mean_blocks.specs.WorkingState.{enter, changed_by}
use Rattle.mean_blocks.specs.FunctionCalls.{frame_of}
use Rattle.mean_blocks.specs.ExpressionValues.{values_in}
use Rattle.mean_blocks.specs.InstanceEffects.{most_instances, variables_of, with_next, holds}
use Rattle.mean_blocks.specs.StatementEffects.{initialized, element_of, init_done, statements_in}
use Rattle.mean_blocks.specs.BlockLevels.{within, site, left_by, most_levels}
use Rattle.mean_blocks.specs.StartMeaning.{no_instances, start_before}
use Rattle.mean_blocks.proofs.OrderlyStarts.{OnSent}
use Rattle.law_runs.specs.UpkeepLaws.{OnDone}
use Rattle.law_runs.specs.AncestorLaws.{IsRowOf}
use Rattle.law_runs.specs.OrderLaws.{IsOrderly, IsLiving, IsOneTree, StartsAreOrderly}
use Rattle.law_runs.proofs.ParentsOlder.{begun_age}
use Rattle.law_runs.proofs.OrderlyBlocks.{Works, IsAtWork, Follows, Reached, order_kept}
use Rattle.law_runs.proofs.OrderlyBlocks.{order_done}
use Rattle.law_runs.proofs.OneRoot.{UnderRoot, Whatever, root_kept}
use Rattle.law_runs.proofs.BlocksOfInstances.{initialized_keeps, deeper_keep}
use Rattle.law_runs.proofs.Executions.{with_situation}

none_some : {A : Type 0} (a : A) → None ≡ Some a → ⊥
none_some a h = cc

-- the state before anything is done
abbrev blank : ℕ → State
blank l = record { situation = no_instances; outs = []; frames = []; left = l }

-- an orderly situation with one root
abbrev HasRoot : State → Type 0
HasRoot u = IsOneTree u.situation

-- OUTCOMES

counted_blank : {A B : Type 0} (l : ℕ) (o : Outcome ℕ A) (go : A → State → Outcome State B)
    → ((a : A) (k : ℕ) → OnDone HasRoot (go a (blank k)))
    → OnDone HasRoot (onward (counting (blank l) o) go)
counted_blank l (Done a k) go h = h a k
counted_blank l (Fault f) go h = tt
counted_blank l Limit go h = tt

known_blank : {A B : Type 0} (o : Option A) (go : A → State → Outcome State B) (s : State)
    → ((a : A) → OnDone HasRoot (go a s)) → OnDone HasRoot ((known o >>= go) s)
known_blank (Some a) go s h = h a
known_blank None go s h = tt

abbrev idle : Does
idle = give tt

idle_after : (o : Outcome State (Unit {0})) → OnDone HasRoot o
    → OnDone HasRoot (onward o (λ _. idle))
idle_after (Done a s) h = h
idle_after (Fault f) h = tt
idle_after Limit h = tt

tree_done : (x : Situation) (o : Outcome State (Unit {0}))
    → OnDone (λ u. IsOrderly u.situation × IsLiving u.situation.rows 1) o
    → OnDone (λ u. UnderRoot 1 u × Whatever x u.situation) o → OnDone HasRoot o
tree_done x (Done a u) h g =
    record { order = h.0; root = record { alive = h.1; alone = g.0.2 } }
tree_done x (Fault f) h g = tt
tree_done x Limit h g = tt

-- THE ROOT

module _ (t : Text) where
  -- the situation with the root alone
  abbrev rooted : Element → ℕ → Frame → Situation
  rooted e body f = with_row 0 (holds e 1) (with_next t.outline 0 body f no_instances)

  root_parent : (e : Element) (body : ℕ) (f : Frame) (r : Row) → IsRowOf (rooted e body f).rows r
      → (r.parent ≡ 0) ⊎ IsLiving (rooted e body f).rows r.parent
  root_parent e body f r (inl i) = inl (ap (λ (y : Row). y.parent) (sym i))
  root_parent e body f r (inr h) = absurd h

  root_alone : (e : Element) (body : ℕ) (f : Frame) (r : Row) → IsRowOf (rooted e body f).rows r
      → r.parent ≡ 0 → r.number ≡ 1
  root_alone e body f r (inl i) z = ap (λ (y : Row). y.number) (sym i)
  root_alone e body f r (inr h) z = absurd h

  root_works : (e : Element) (body : ℕ) (f : Frame) → Works 1 (rooted e body f) []
  root_works e body f = record {
    alive = refl;
    numbers = (omega arith, (omega arith, omega arith, tt));
    age = (begun_age t 0 body e f (blank 0) (omega arith, tt)).0.1;
    parents = root_parent e body f;
    links = record {
      peers = λ p q k. absurd (none_some q k);
      downs = λ p q k. absurd (none_some q k);
      items = λ q d. refl;
    };
    names = tt;
  }

  born_root : (l : ℕ) (e : Element) (body : ℕ) (b : Bool) (r : Result Frame BlockFault) (go : Does)
      → ((f : Frame) → OnDone HasRoot (go (with_situation (blank l) (rooted e body f))))
      → OnDone HasRoot (onward (changed_by (blank l)
      (if b then Err TooMany else on_ok r (λ f. Ok (rooted e body f)))) (λ _. go))
  born_root l e body true r go h = tt
  born_root l e body false (Ok f) go h = h f
  born_root l e body false (Err x) go h = tt

  init_root : (target : Access) (body : Used) (arguments : List Expr) (l : ℕ)
      → OnDone HasRoot (init_done target body arguments (site t 0 false most_levels) (blank l))
  init_root target body arguments l = let d = within most_levels t in
      let x = site t 0 false most_levels in
      counted_blank l (element_of target (view x (blank l)) l) _
      (λ e k. counted_blank k (values_in arguments [] (view x (blank k)) k) _
      (λ xs m. known_blank (declared_at t.outline body) _ (blank m)
      (λ p. known_blank (body_at t p) _ (blank m)
      (λ y. born_root m e p (nat_lt most_instances 1)
      (frame_of t.outline (variables_of t.outline p) xs)
      (initialized 1 (out-Body y).first x)
      (λ f. tree_done (rooted e p f)
      (initialized 1 (out-Body y).first x (with_situation (blank m) (rooted e p f)))
      (order_done 1 (rooted e p f)
      (initialized 1 (out-Body y).first x (with_situation (blank m) (rooted e p f)))
      (initialized_keeps t IsAtWork Follows Reached (λ n i. n < i) (order_kept t) 0 d
      (λ i ys. deeper_keep t IsAtWork Follows Reached (λ n i. n < i) (order_kept t) most_levels i
      ys) 1 (out-Body y).first (with_situation (blank m) (rooted e p f))
      (root_works e p f)))
      (initialized_keeps t UnderRoot Whatever (λ n s i. Unit {0}) (λ n i. Unit {0}) (root_kept t) 0
      d (λ i ys. deeper_keep t UnderRoot Whatever (λ n s i. Unit {0}) (λ n i. Unit {0})
      (root_kept t) most_levels i ys) 1 (out-Body y).first
      (with_situation (blank m) (rooted e p f))
      (omega arith, omega arith, root_alone e p f)))))))

  first_root : (target : Access) (body : Used) (arguments : List Expr) (place limit : ℕ)
      → OnDone HasRoot (statements_in (statement.Init target body arguments place ∷ [])
      (site t 0 false most_levels) (blank limit))
  first_root target body arguments place limit = idle_after
      ((enter >> init_done target body arguments (site t 0 false most_levels)) (blank limit))
      (counted_blank limit (counted limit)
      (λ _. init_done target body arguments (site t 0 false most_levels))
      (λ a k. init_root target body arguments k))

-- THE LAW

left_root : (o : Outcome State (Unit {0})) → OnDone HasRoot o → OnSent IsOneTree (left_by o)
left_root (Done u s) h = h
left_root (Fault f) h = tt
left_root Limit h = tt

pub start_tree : (t : Text) (limit : ℕ) (target : Access) (body : Used) (arguments : List Expr)
    (place : ℕ) → t.spec.first ≡ statement.Init target body arguments place
    → OnSent IsOneTree (start_before t limit)
start_tree t limit target body arguments place e =
    left_root (statements_in (t.spec.first ∷ []) (site t 0 false most_levels) (blank limit))
    (subst (λ (y : Statement). OnDone HasRoot (statements_in (y ∷ [])
    (site t 0 false most_levels) (blank limit))) (sym e)
    (first_root t target body arguments place limit))

pub starts_are_orderly : StartsAreOrderly
starts_are_orderly t limit target body arguments place x e k = subst (OnSent IsOneTree) k
    (start_tree t limit target body arguments place e)
