-- The clauses of transitions (ISO 9074, clause).
use Rattle.std.specs.Prelude.{ℕ}
use Rattle.est_syntax.specs.declared.transition.Clause.{Clause}
use Rattle.est_syntax.specs.declared.transition.Clause.TheVariants as clause

-- the place of the first token of a clause
abbrev pub clause_place : Clause → ℕ
clause_place (clause.From states place) = place
clause_place (clause.To state place) = place
clause_place (clause.When at signal place) = place
clause_place (clause.Provided condition place) = place
clause_place (clause.Otherwise place) = place
clause_place (clause.Any names place) = place
clause_place (clause.Priority value place) = place
clause_place (clause.Delay least most place) = place
