-- Instances that begin.
use Rattle.std.specs.Prelude.{ℕ, List}
use Rattle.std.specs.List.{flat_map}
use Rattle.plain_texts.specs.rule_scope.Outline.{Outline}
use Rattle.plain_texts.specs.mean_blocks.declared.situation.Element.{Element}
use Rattle.plain_texts.specs.mean_blocks.declared.situation.Holding.{Holding}
use Rattle.plain_texts.specs.mean_blocks.GlobalSituation.{Frame, Situation, with_row}
use Rattle.plain_texts.specs.mean_blocks.NamesInRuns.{places_of}
use Rattle.plain_texts.specs.mean_blocks.InstanceEffects.{empty_elements, with_next, holds}
use Rattle.plain_texts.specs.rule_scope.declared.declaration.Sort.TheVariants as sort

-- the elements of module variables at some places, which hold nothing
abbrev pub elements_at : Outline → List ℕ → List Holding
elements_at o places = flat_map (empty_elements o) places

-- those of a body
abbrev pub elements_of : Outline → ℕ → List Holding
elements_of o body = elements_at o (places_of o sort.ModuleVariable body)

-- the situation with the next instance, which has these variables, in an element of the instance
-- that begins it
abbrev pub placed : Outline → ℕ → Element → ℕ → Frame → Situation → Situation
placed o parent e body f s = with_row parent (holds e s.next) (with_next o parent body f s)
