-- What the program keeps of names and kinds, as the definitions have it.
use Rattle.std.specs.Prelude.{ℕ, ℤ, List, map, Option}
use Rattle.std.specs.Borrow.{Bor}
use Rattle.std.specs.List.{filter}
use Rattle.std.specs.Option.{option_map}
use Rattle.est_syntax.specs.declared.kind.Kind.{Kind}
use Rattle.mean_blocks.specs.rule_scope.declared.declaration.Sort.{Sort}
use Rattle.mean_blocks.specs.rule_scope.declared.declaration.Standing.{Standing}
use Rattle.mean_blocks.specs.rule_scope.Outline.{Outline, Region, entry_at}
use Rattle.mean_blocks.specs.rule_scope.Uses.{is_sort}
use Rattle.mean_blocks.specs.rule_kinds.declared.value.Valued.{Valued}
use Rattle.mean_blocks.specs.NamesInRuns.{Head, Nothing, Constant as Ordinal, Function}
use Rattle.mean_blocks.specs.NamesInRuns.{Variable, Modules}
use Rattle.plain_declared.specs.declared.heads.Head as code
use Rattle.plain_declared.specs.declared.heads.Head.TheVariants as kept

-- what a name stands for
abbrev pub head_of : code.Head → Head
head_of kept.Nothing = Nothing
head_of (kept.Constant z) = Ordinal z
head_of (kept.Function p k) = Function p k.now
head_of (kept.Variable p k) = Variable p k.now
head_of (kept.Modules p) = Modules p

-- the ordinal of a constant, where there is one
abbrev pub ordinal_of : Option Valued → Option ℤ
ordinal_of v = option_map (λ (x : Valued). x.ordinal) v

-- the kinds of an array's index and of its components
abbrev pub both_of : Option (Bor Kind × Bor Kind) → Option (Kind × Kind)
both_of ks = option_map (λ (p : Bor Kind × Bor Kind). (p.0.now, p.1.now)) ks

-- the number and the kind of a field
abbrev pub numbered_of : Option (ℕ × Bor Kind) → Option (ℕ × Kind)
numbered_of f = option_map (λ (p : ℕ × Bor Kind). (p.0, p.1.now)) f

-- of some places, those of what is declared with a sort
abbrev pub of_sort : Outline → Sort → List ℕ → List ℕ
of_sort o s ps = filter (λ (p : ℕ). is_sort s (entry_at o p)) ps

-- the places of what names of a region declare with a sort
abbrev pub places_in : Outline → Sort → Region → List ℕ
places_in o s names = of_sort o s (map (λ (n : List ℕ × Standing). n.1.place) names)
