-- Links that go with instances that are released.
use Rattle.std.specs.Prelude.{ℕ, Bool, false, ◌&&◌, List, map, Option}
use Rattle.std.specs.List.{filter}
use Rattle.std.specs.Option.{option_map_or}
use Rattle.plain_texts.specs.mean_blocks.declared.situation.InteractionPoint.{InteractionPoint}
use Rattle.plain_texts.specs.mean_blocks.InstanceEffects.{is_among}
use Rattle.plain_systems.specs.declared.system.Link.{Link}
use Rattle.plain_systems.specs.HeldSystems.{linked}

-- whether an interaction point, if there is one, is of one of these instances
abbrev pub is_lost : List ℕ → Option InteractionPoint → Bool
is_lost ns o = option_map_or (λ (q : InteractionPoint). is_among ns q.instance) o false

-- whether a link leads to one of these instances, where of those from its end it counts
abbrev pub is_stray : List ℕ → List Link → Link → Bool
is_stray ns ls l = is_among ns l.to.instance && is_lost ns (linked ls l.from)

-- the interaction points from which links lead to one of these instances
abbrev pub strays : List ℕ → List Link → List InteractionPoint
strays ns ls = map (λ (l : Link). l.from) (filter (is_stray ns ls) ls)
