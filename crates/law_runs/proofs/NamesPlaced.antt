-- The names of the `all`s of a piece of text stand between the places of that piece.
use Rattle.std.proofs.Common.{ℕ, suc, ◌<◌, ◌≤◌, List, [], ◌∷◌, inl, inr, arith}
use Rattle.est_syntax.specs.declared.statement.Statement.{Statement, Row_of-Statement}
use Rattle.est_syntax.specs.declared.statement.Statement.{end_of-Statement, more_of-Statement}
use Rattle.est_syntax.specs.declared.statement.Statement.{Row_of-Arm, end_of-Arm, more_of-Arm}
use Rattle.est_syntax.specs.declared.statement.Statement.{Held-Statement-If-2}
use Rattle.est_syntax.specs.declared.statement.Statement.TheBlock as held
use Rattle.est_syntax.specs.declared.statement.Statement.TheVariants as statement
use Rattle.est_syntax.specs.declared.body.Part.{Part, Row_of-Part, end_of-Part, more_of-Part}
use Rattle.est_syntax.specs.declared.body.Part.TheBlock as first
use Rattle.est_syntax.specs.declared.body.Part.TheVariants as part
use Rattle.est_syntax.specs.declared.body.Body.{Body', Row_of-Group, end_of-Group}
use Rattle.est_syntax.specs.declared.body.Body.{more_of-Group, Held-Body-first}
use Rattle.est_syntax.specs.declared.transition.Group.{Group', Row_of-Transition}
use Rattle.est_syntax.specs.declared.transition.Group.{end_of-Transition, more_of-Transition}
use Rattle.law_places.proofs.Placed.{ConstantPlaced}
use Rattle.law_places.proofs.PlacedParts.{InOrder, FormalPlaced}
use Rattle.law_places.proofs.PlacedBodies.{StatementPlaced, StatementsPlaced, SecondPlaced}
use Rattle.law_places.proofs.PlacedBodies.{ArmsPlaced, PartPlaced, PartsPlaced, FirstPlaced}
use Rattle.law_places.proofs.PlacedBodies.{GroupsPlaced, TransitionsPlaced}
use Rattle.law_places.proofs.Declaring.{order_on, short_on, formal_on}
use Rattle.law_places.proofs.BodiesGoOn.{one_constant_on, statement_on, statements_on, second_on}
use Rattle.law_places.proofs.BodiesGoOn.{arms_on, turn_on, name_on, clauses_on, part_on, parts_on}
use Rattle.law_places.proofs.BodiesGoOn.{first_on, groups_on, transitions_on}
use Rattle.law_runs.specs.NamesOfAlls.{NamesAll, RowNamesAll, SecondNamesAll, ArmsNameAll}
use Rattle.law_runs.specs.NamesOfAlls.{BlockNamesAll, PartNamesAll, PartsNameAll, FirstNamesAll}
use Rattle.law_runs.specs.NamesOfAlls.{GroupsNameAll, TransitionsNameAll, ListedNameAll}

abbrev Between : ℕ → ℕ → ℕ → Type 0
Between i j p = (i ≤ p) × (p < j)

wider : (a i j b p : ℕ) → a ≤ i → j ≤ b → Between i j p → Between a b p
wider a i j b p l m h = let c = h.0 in let d = h.1 in (omega arith, omega arith)

mutual
  pub names_between : (s : Statement) (i j : ℕ) → StatementPlaced i j s → (p : ℕ) → NamesAll s p
      → Between i j p
  names_between (statement.Compound' a turn place) i j h p n =
      let l = h.0 in wider i place j j p (omega arith) (omega arith)
      (row_between turn place j h.1 p n)
  names_between (statement.If' condition a one second place) i j h p (inl n) =
      let l = h.2 in
      let m = h.3 in
      let e = second_on h.1 j second h.5 in
      wider i h.0 h.1 j p (omega arith) (omega arith) (row_between one h.0 h.1 h.4 p n)
  names_between (statement.If' condition a one second place) i j h p (inr n) =
      let l = h.2 in
      let m = h.3 in
      let e = statements_on h.0 h.1 one h.4 in
      wider i h.1 j j p (omega arith) (omega arith) (second_between second h.1 j h.5 p n)
  names_between (statement.Case' value a arms place) i j h p n =
      let l = h.1 in
      let m = h.2 in
      wider i h.0 j j p (omega arith) (omega arith) (arms_between arms h.0 j h.3 p n)
  names_between (statement.While' condition a turn place) i j h p n =
      let l = h.1 in
      let m = h.2 in
      wider i h.0 j j p (omega arith) (omega arith) (row_between turn h.0 j h.3 p n)
  names_between (statement.Repeat' a turn until place) i j h p n =
      let l = h.1 in
      let m = h.3 in
      let q = h.4 in
      wider i place h.0 j p (omega arith) (omega arith) (row_between turn place h.0 h.2 p n)
  names_between (statement.For' name from down to a turn place) i j h p n =
      let l = h.1 in
      let m = h.2 in
      wider i h.0 j j p (omega arith) (omega arith) (row_between turn h.0 j h.3 p n)
  names_between (statement.All' name over a turn place) i j h p (inl n) =
      let l = h.1 in
      let m = h.2 in
      let e = short_on (suc name.place) h.0 over h.3 in
      let f = statements_on h.0 j turn h.4 in (omega arith, omega arith)
  names_between (statement.All' name over a turn place) i j h p (inr n) =
      let l = h.1 in
      let m = h.2 in
      let e = short_on (suc name.place) h.0 over h.3 in
      wider i h.0 j j p (omega arith) (omega arith) (row_between turn h.0 j h.4 p n)
  names_between _ i j h p n = absurd n

  pub row_between : {n : _} (row : Row_of-Statement n) (i j : ℕ) → StatementsPlaced i j row
      → (p : ℕ) → RowNamesAll row p → Between i j p
  row_between end_of-Statement i j h p n = absurd n
  row_between (more_of-Statement s rest) i j h p (inl n) =
      let e = statements_on h.0 j rest h.2 in
      wider i i h.0 j p (omega arith) (omega arith) (names_between s i h.0 h.1 p n)
  row_between (more_of-Statement s rest) i j h p (inr n) =
      let e = statement_on i h.0 s h.1 in
      wider i h.0 j j p (omega arith) (omega arith) (row_between rest h.0 j h.2 p n)

  pub second_between : (s : Held-Statement-If-2) (i j : ℕ) → SecondPlaced i j s → (p : ℕ)
      → SecondNamesAll s p → Between i j p
  second_between held.None' i j h p n = absurd n
  second_between (held.Some' a second) i j h p n = row_between second i j h p n

  pub arms_between : {n : _} (row : Row_of-Arm n) (i j : ℕ) → ArmsPlaced i j row → (p : ℕ)
      → ArmsNameAll row p → Between i j p
  arms_between end_of-Arm i j h p n = absurd n
  arms_between (more_of-Arm constants s rest) i j h p (inl n) =
      let c = order_on ConstantPlaced one_constant_on i h.0 constants h.2 in
      let e = arms_on h.1 j rest h.4 in
      wider i h.0 h.1 j p (omega arith) (omega arith) (names_between s h.0 h.1 h.3 p n)
  arms_between (more_of-Arm constants s rest) i j h p (inr n) =
      let c = order_on ConstantPlaced one_constant_on i h.0 constants h.2 in
      let e = statement_on h.0 h.1 s h.3 in
      wider i h.1 j j p (omega arith) (omega arith) (arms_between rest h.1 j h.4 p n)

pub block_between : (ss : List Statement) (i j : ℕ) → InOrder StatementPlaced i j ss → (p : ℕ)
    → BlockNamesAll ss p → Between i j p
block_between [] i j h p n = absurd n
block_between (s ∷ ss) i j h p (inl n) =
    let e = turn_on h.0 j ss h.2 in
    wider i i h.0 j p (omega arith) (omega arith) (names_between s i h.0 h.1 p n)
block_between (s ∷ ss) i j h p (inr n) =
    let e = statement_on i h.0 s h.1 in
    wider i h.0 j j p (omega arith) (omega arith) (block_between ss h.0 j h.2 p n)

pub first_between : (f : Held-Body-first) (i j : ℕ) → FirstPlaced i j f → (p : ℕ)
    → FirstNamesAll f p → Between i j p
first_between first.None' i j h p n = absurd n
first_between (first.Some' to a parts statements place) i j h p n =
    let c = name_on i h.0 to h.2 in
    let d = parts_on h.0 h.1 parts h.3 in
    let e = h.4 in
    wider i place j j p (omega arith) (omega arith) (block_between statements place j h.5 p n)

mutual
  pub groups_between : {n : _} (row : Row_of-Group n) (i j : ℕ) → GroupsPlaced i j row → (p : ℕ)
      → GroupsNameAll row p → Between i j p
  groups_between end_of-Group i j h p n = absurd n
  groups_between (more_of-Group (Group' a transitions) rest) i j h p (inl n) =
      let e = groups_on h.0 j rest h.2 in
      wider i i h.0 j p (omega arith) (omega arith)
      (transitions_between transitions i h.0 h.1 p n)
  groups_between (more_of-Group (Group' a transitions) rest) i j h p (inr n) =
      let e = transitions_on i h.0 transitions h.1 in
      wider i h.0 j j p (omega arith) (omega arith) (groups_between rest h.0 j h.2 p n)

  pub transitions_between : {n : _} (row : Row_of-Transition n) (i j : ℕ)
      → TransitionsPlaced i j row → (p : ℕ) → TransitionsNameAll row p → Between i j p
  transitions_between end_of-Transition i j h p n = absurd n
  transitions_between (more_of-Transition cs name a parts statements place rest) i j h p (inl n) =
      let c = clauses_on i h.0 cs h.4 in
      let l = h.5 in
      let d = parts_on h.1 h.2 parts h.6 in
      let m = h.7 in
      let e = transitions_on h.3 j rest h.9 in
      wider i place h.3 j p (omega arith) (omega arith)
      (block_between statements place h.3 h.8 p n)
  transitions_between (more_of-Transition cs name a parts statements place rest) i j h p (inr n) =
      let c = clauses_on i h.0 cs h.4 in
      let l = h.5 in
      let d = parts_on h.1 h.2 parts h.6 in
      let m = h.7 in
      let e = turn_on place h.3 statements h.8 in
      wider i h.3 j j p (omega arith) (omega arith) (transitions_between rest h.3 j h.9 p n)

mutual
  pub part_between : (x : Part) (i j : ℕ) → PartPlaced i j x → (p : ℕ) → PartNamesAll x p
      → Between i j p
  part_between (part.Body (Body' name header a parts f b groups)) i j h p (inl n) =
      let l = h.2 in
      let m = h.3 in
      let d = first_on h.0 h.1 f h.5 in
      let e = groups_on h.1 j groups h.6 in
      wider i (suc header.place) h.0 j p (omega arith) (omega arith)
      (parts_between parts (suc header.place) h.0 h.4 p n)
  part_between (part.Body (Body' name header a parts f b groups)) i j h p (inr (inl n)) =
      let l = h.2 in
      let m = h.3 in
      let c = parts_on (suc header.place) h.0 parts h.4 in
      let e = groups_on h.1 j groups h.6 in
      wider i h.0 h.1 j p (omega arith) (omega arith) (first_between f h.0 h.1 h.5 p n)
  part_between (part.Body (Body' name header a parts f b groups)) i j h p (inr (inr n)) =
      let l = h.2 in
      let m = h.3 in
      let c = parts_on (suc header.place) h.0 parts h.4 in
      let d = first_on h.0 h.1 f h.5 in
      wider i h.1 j j p (omega arith) (omega arith) (groups_between groups h.1 j h.6 p n)
  part_between (part.Routine' name formals result a parts statements place) i j h p n =
      let l = h.3 in
      let m = h.7 in
      let c = order_on FormalPlaced formal_on (suc name.place) h.0 formals h.4 in
      let d = name_on h.0 h.1 result h.5 in
      let e = parts_on h.1 h.2 parts h.6 in
      wider i place j j p (omega arith) (omega arith)
      (block_between statements place j h.8 p n)
  part_between _ i j h p n = absurd n

  pub parts_between : {n : _} (row : Row_of-Part n) (i j : ℕ) → PartsPlaced i j row → (p : ℕ)
      → PartsNameAll row p → Between i j p
  parts_between end_of-Part i j h p n = absurd n
  parts_between (more_of-Part x rest) i j h p (inl n) =
      let e = parts_on h.0 j rest h.2 in
      wider i i h.0 j p (omega arith) (omega arith) (part_between x i h.0 h.1 p n)
  parts_between (more_of-Part x rest) i j h p (inr n) =
      let e = part_on i h.0 x h.1 in
      wider i h.0 j j p (omega arith) (omega arith) (parts_between rest h.0 j h.2 p n)

pub listed_between : (xs : List Part) (i j : ℕ) → InOrder PartPlaced i j xs → (p : ℕ)
    → ListedNameAll xs p → Between i j p
listed_between [] i j h p n = absurd n
listed_between (x ∷ xs) i j h p (inl n) =
    let e = order_on PartPlaced part_on h.0 j xs h.2 in
    wider i i h.0 j p (omega arith) (omega arith) (part_between x i h.0 h.1 p n)
listed_between (x ∷ xs) i j h p (inr n) =
    let e = part_on i h.0 x h.1 in
    wider i h.0 j j p (omega arith) (omega arith) (listed_between xs h.0 j h.2 p n)
