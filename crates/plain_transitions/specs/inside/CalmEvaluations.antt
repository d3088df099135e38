-- Evaluations that never pass their limit.
use Rattle.std.specs.Prelude.{◌≡◌, ◌≢◌, ℕ}
use Rattle.est_values.specs.declared.value.Value.{Value}
use Rattle.est_meaning.specs.rule_scope.Outline.{Outline}
use Rattle.est_meaning.specs.mean_blocks.Outcome.{Limit}
use Rattle.est_meaning.specs.mean_blocks.WorkingState.{View, Counts}

-- an evaluation does not pass its limit, whatever it sees of this outline
abbrev pub IsCalm : Outline → (View → Counts Value) → Type 0
IsCalm o m = (v : View) (n : ℕ) → v.site.text.outline ≡ o → m v n ≢ Limit
