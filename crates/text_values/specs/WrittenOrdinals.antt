-- The canonical texts of ordinals (ISO 7185, 6.4.2).
use Rattle.std.specs.Prelude.{ℕ, ℤ, pos, negsuc, Bool, ◌==◌, ◌&&◌, nat_le, List, [], ◌∷◌, ◌++◌}
use Rattle.std.specs.Prelude.{codes, slice_get, if◌then◌else◌}
use Rattle.std.specs.Fmt.{decimal, signed_decimal}
use Rattle.std.specs.Option.{option_map_or}
use Rattle.std.specs.Ordering.{int_eq}
use Rattle.est_syntax.specs.declared.kind.Kind.{Kind, out-Kind}
use Rattle.est_syntax.specs.declared.kind.Kind.TheOpen as kinds
use Rattle.est_syntax.specs.declared.name.Name.{Name}
use Rattle.est_values.specs.FittingValues.{KindLayer}

-- the natural number that an integer is; 0 where it is negative
abbrev pub to_natural : ℤ → ℕ
to_natural (pos n) = n
to_natural (negsuc n) = 0

-- whether the character of a code is printable
abbrev pub is_printable : ℕ → Bool
is_printable code = nat_le 32 code && nat_le code 126

-- `chr`, and the code of a character in parentheses
abbrev pub code_text : ℕ → List ℕ
code_text code = codes "chr(" ++ decimal code ++ codes ")"

-- a character constant, in which two quotes mean one (ISO 7185, 6.1.7)
abbrev pub quoted : ℕ → List ℕ
quoted code = if code == 39 then codes "''''" else codes "'" ++ code ∷ codes "'"

-- the character of a code: a constant where it is printable
abbrev pub character_text : ℕ → List ℕ
character_text code = if is_printable code then quoted code else code_text code

-- the name of a truth value
abbrev pub boolean_text : ℤ → List ℕ
boolean_text z = if int_eq z (pos 0) then codes "false" else codes "true"

-- the name of a constant, by its number; nothing where there is no such constant
abbrev pub constant_text : List Name → ℕ → List ℕ
constant_text names n = option_map_or (λ (name : Name). name.bytes) (slice_get names n) []

-- the kind that a part of a kind is of
abbrev pub host_by : KindLayer → Kind → Kind
host_by (kinds.Part host low high) k = host
host_by _ k = k

-- an ordinal of a host of this form; a kind without ordinals has none
abbrev pub ordinal_by : KindLayer → ℤ → List ℕ
ordinal_by kinds.Integer z = signed_decimal z
ordinal_by kinds.Boolean z = boolean_text z
ordinal_by kinds.Char z = character_text (to_natural z)
ordinal_by (kinds.Enumeration declared names) z = constant_text names (to_natural z)
ordinal_by _ z = []

-- an ordinal of a kind
abbrev pub ordinal_text : Kind → ℤ → List ℕ
ordinal_text k z = ordinal_by (out-Kind (host_by (out-Kind k) k)) z
