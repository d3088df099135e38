-- How names are compared (ISO 7185, 6.1.3).
use Rattle.std.specs.Prelude.{ℕ, ◌==◌, Bool, List}
use Rattle.std.specs.Cmp.Lexicographic.{pointwise}
use Rattle.est_syntax.specs.declared.name.Used.{Used}

-- the bytes of a name
abbrev pub spelled : Used → List ℕ
spelled u = u.name.bytes

-- whether two names are one
abbrev pub is_name : List ℕ → List ℕ → Bool
is_name = pointwise ◌==◌
