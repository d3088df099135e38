-- Rows and stamps that are left where instances are released.
use Rattle.std.specs.Prelude.{ℕ, not, List, None, if◌then◌else◌}
use Rattle.std.specs.List.{filter}
use Rattle.plain_texts.specs.mean_blocks.declared.situation.Row.{Row}
use Rattle.plain_texts.specs.mean_blocks.GlobalSituation.{Map, Clocked}
use Rattle.plain_texts.specs.mean_blocks.InstanceEffects.{is_among}

-- the rows of others than these instances
abbrev pub rows_without : List ℕ → List Row → List Row
rows_without ns rs = filter (λ (r : Row). not (is_among ns r.number)) rs

-- the stamps of others than these instances
abbrev pub stamps_without : List ℕ → Map Clocked ℕ → Map Clocked ℕ
stamps_without ns m = λ k. if is_among ns k.instance then None else m k
