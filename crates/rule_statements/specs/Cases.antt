-- The constants of a `case` (ISO 7185, 6.8.3.5).
use Rattle.std.specs.Prelude.{ℕ, ℤ, Bool, false, List, [], ◌∷◌, ◌++◌}
use Rattle.std.specs.Prelude.{Option, Some, None, is_some, if◌then◌else◌}
use Rattle.std.specs.Map.{lookup}
use Rattle.std.specs.Option.{option_map_or}
use Rattle.std.specs.Ordering.{int_eq}
use Rattle.indexmap.specs.IndexMap.{insert_entry}
use Rattle.est_syntax.specs.Faults.{broken, broken_if}
use Rattle.est_syntax.specs.declared.constant.Constant.{Constant}
use Rattle.est_syntax.specs.declared.rule.Fault.{Fault}
use Rattle.est_syntax.specs.declared.rule.Rule.TheVariants.{WrongKind, CaseTwice}
use Rattle.rule_scope.specs.Outline.{Outline}
use Rattle.rule_declares.specs.rule_kinds.declared.value.Valued.{Valued}
use Rattle.rule_declares.specs.rule_kinds.Constants.{constant_value, constant_faults}
use Rattle.rule_declares.specs.rule_kinds.Constants.{constant_place}
use Rattle.est_values.specs.declared.types.Host.{Host}
use Rattle.est_values.specs.Types.{Yielded, Ordinal, is_host, host_in}

-- the ordinals of the constants so far, with their places
abbrev pub Chosen : Type 0
Chosen = List (ℤ × ℕ)

-- the host of what is chosen by
abbrev pub chosen_host : Option Yielded → Option Host
chosen_host (Some (Ordinal h)) = Some h
chosen_host _ = None

-- whether a constant is of this host
abbrev pub is_kind_of : Host → Option Host → Bool
is_kind_of h other = option_map_or (is_host h) other false

-- the ordinal of a constant of the host
abbrev pub ordinal_of : Option Host → Option Valued → Option ℤ
ordinal_of (Some h) (Some v) = if is_kind_of h (host_in v.host) then Some v.ordinal else None
ordinal_of _ _ = None

-- what a constant of another host breaks
abbrev pub host_faults : Option Host → Option Valued → ℕ → List Fault
host_faults (Some h) (Some v) place =
    if is_kind_of h (host_in v.host) then [] else broken place WrongKind
host_faults _ _ place = []

-- the ordinals with that of a constant, if it has one, unless it stands there already
abbrev pub with_ordinal : Option ℤ → ℕ → Chosen → Chosen
with_ordinal None place seen = seen
with_ordinal (Some z) place seen =
    if is_some (lookup (int_eq z) seen) then seen else insert_entry int_eq seen z place

-- what the ordinal of a constant breaks, if it has one that stands there already
abbrev pub again_faults : Option ℤ → Chosen → ℕ → List Fault
again_faults None seen place = []
again_faults (Some z) seen place = broken_if (is_some (lookup (int_eq z) seen)) place CaseTwice

-- the ordinals with that of one constant more
abbrev pub with_constant : Outline → Option Host → Chosen → Constant → Chosen
with_constant o h seen c = with_ordinal (ordinal_of h (constant_value o c)) (constant_place c) seen

-- what a constant of a `case` breaks, after those before it
abbrev pub choice_faults : Outline → Option Host → Chosen → Constant → List Fault
choice_faults o h seen c =
    constant_faults o c ++ host_faults h (constant_value o c) (constant_place c)
    ++ again_faults (ordinal_of h (constant_value o c)) seen (constant_place c)

-- the ordinals with those of more constants
abbrev pub with_constants : Outline → Option Host → Chosen → List Constant → Chosen
with_constants o h seen [] = seen
with_constants o h seen (c ∷ cs) = with_constants o h (with_constant o h seen c) cs

-- what constants of a `case` break, after those before them
abbrev pub choices_faults : Outline → Option Host → Chosen → List Constant → List Fault
choices_faults o h seen [] = []
choices_faults o h seen (c ∷ cs) =
    choice_faults o h seen c ++ choices_faults o h (with_constant o h seen c) cs
