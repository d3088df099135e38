-- What being alike keeps.
use Rattle.std.specs.Prelude.{◌≡◌, true}
use Rattle.est_syntax.specs.declared.kind.Kind.{Kind}
use Rattle.est_values.specs.Alike.{is_alike}

-- each kind is alike to itself
abbrev pub KindsAreAlikeToThemselves : Type 0
KindsAreAlikeToThemselves = (k : Kind) → is_alike k k ≡ true
