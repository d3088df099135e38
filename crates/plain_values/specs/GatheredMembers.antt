-- The members of a set that are gathered (ISO 7185, 6.7.1).
use Rattle.std.specs.Prelude.{◌≡◌, ◌<◌, ℤ, List, length}
use Rattle.mean_blocks.specs.rule_kinds.TypeTexts.{most_members}
use Rattle.plain_values.specs.declared.sets.Gathered.{Gathered}
use Rattle.plain_values.specs.declared.sets.Gathered.TheVariants.{Few, Many}

-- that these members were gathered: the list of them, or that they are too many for a set
abbrev pub IsGathered : List ℤ → Gathered → Type 0
IsGathered zs (Few xs) = zs ≡ xs
IsGathered zs Many = most_members < length zs
