-- The numbers of a body, by the lists that it is made of.
use Rattle.std.specs.Prelude.{ℕ, List, [], ◌∷◌, length}
use Rattle.est_syntax.specs.declared.body.Body.{Body, out-Body}
use Rattle.est_syntax.specs.declared.transition.Group.{Group, out-Group}
use Rattle.rule_declares.specs.rule_kinds.TypeTexts.{added}
use Rattle.rule_ports.specs.Counts.{bodies, transitions}

-- a body, and the bodies within it
abbrev pub body_bodies : Body → ℕ
body_bodies b = added 1 (bodies (out-Body b).parts)

-- the transitions of a group
abbrev pub group_count : Group → ℕ
group_count g = length (out-Group g).transitions

-- the transitions of groups
abbrev pub group_counts : List Group → ℕ
group_counts [] = 0
group_counts (g ∷ gs) = added (group_count g) (group_counts gs)

-- the transitions of a body, and of the bodies within it
abbrev pub body_transitions : Body → ℕ
body_transitions b = added (group_counts (out-Body b).groups) (transitions (out-Body b).parts)
