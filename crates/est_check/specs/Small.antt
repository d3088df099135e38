-- The size of a specification.
use Rattle.std.specs.Prelude.{ℕ, ◌+◌, ◌≤◌, length, sum_by}
use Rattle.est_syntax.specs.declared.channel.ByPart.{ByPart}
use Rattle.est_syntax.specs.declared.header.Point.{Point}
use Rattle.est_syntax.specs.declared.header.ModvarDef.{ModvarDef}
use Rattle.est_syntax.specs.declared.transition.Group.{Group, out-Group}
use Rattle.est_syntax.specs.declared.body.Body.{out-Body}
use Rattle.est_syntax.specs.declared.body.Part.{Part}
use Rattle.est_syntax.specs.declared.body.Part.TheVariants as part
use Rattle.est_syntax.specs.declared.specification.Spec.{Spec}

-- the names that a `state` section declares
abbrev pub state_names : Part → ℕ
state_names (part.States us) = length us
state_names _ = 0

-- the interactions after one `by` of a channel
abbrev pub by_names : ByPart → ℕ
by_names b = length b.interactions

-- the interaction points of one declaration
abbrev pub point_names : Point → ℕ
point_names p = length p.names

-- the module variables of one declaration
abbrev pub modvar_names : ModvarDef → ℕ
modvar_names m = length m.names

-- the names that a part declares: of channels, points, states and module variables
abbrev pub part_names : Part → ℕ
part_names (part.Channel c) = 1 + (length c.roles + sum_by by_names c.by)
part_names (part.Header h) = 1 + sum_by point_names h.points
part_names (part.Body b) = 1 + sum_by state_names (out-Body b).parts
part_names (part.Modvars ms) = sum_by modvar_names ms
part_names _ = 0

-- the transitions of a group
abbrev pub group_transitions : Group → ℕ
group_transitions g = length (out-Group g).transitions

-- the transitions of a part, if it is a body
abbrev pub part_transitions : Part → ℕ
part_transitions (part.Body b) = sum_by group_transitions (out-Body b).groups
part_transitions _ = 0

-- as many as there may be of each, and as many bytes as the text may have
abbrev pub most_parts : ℕ
most_parts = 1048576

-- names and transitions are no more than that
pub record IsSmall (s : Spec) : Type 0 where
  pub few_names : sum_by part_names s.parts ≤ most_parts
  pub few_transitions : sum_by part_transitions s.parts ≤ most_parts
