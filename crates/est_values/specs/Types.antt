-- What expressions yield, and what may be assigned to a variable (ISO 7185, 6.4.6 and 6.7.1).
use Rattle.std.specs.Prelude.{Bool, true, false, nat_eq, length, Option, Some, None}
use Rattle.est_syntax.specs.declared.kind.Kind.{Kind, out-Kind}
use Rattle.est_syntax.specs.declared.kind.Kind.TheOpen as seen
use Rattle.est_syntax.specs.declared.kind.FieldKind.{FieldKind}
use Rattle.est_values.specs.declared.types.Host.{Host}
use Rattle.est_values.specs.declared.types.Host.TheVariants as host
use Rattle.est_values.specs.declared.types.ValueType.{ValueType}
use Rattle.est_values.specs.declared.types.ValueType.TheVariants as code
use Rattle.est_values.specs.Alike.{is_alike}

-- What an expression yields: an ordinal of a host, a set of members of a host, or of any for `[ ]`,
-- or an array or a record.
pub data Yielded : Type 0 where
  Ordinal : Host → Yielded
  Set : Option Host → Yielded
  Group : Kind → Yielded

-- what an expression yields, of what the program keeps of it
abbrev pub yields : ValueType → Yielded
yields (code.Ordinal h) = Ordinal h
yields (code.Set h) = Set h
yields (code.Group k) = Group k.now

-- the same where the program may keep nothing
abbrev pub yielded : Option ValueType → Option Yielded
yielded None = None
yielded (Some t) = Some (yields t)

-- whether two hosts are one
abbrev pub is_host : Host → Host → Bool
is_host host.Integer host.Integer = true
is_host host.Boolean host.Boolean = true
is_host host.Char host.Char = true
is_host (host.Enumeration p n) (host.Enumeration q m) = nat_eq p q
is_host _ _ = false

-- the host that a kind is
abbrev pub host_in : Kind → Option Host
host_in k = held (out-Kind k)
  where
    held : seen.Kind-F Kind FieldKind → Option Host
    held seen.Integer = Some host.Integer
    held seen.Boolean = Some host.Boolean
    held seen.Char = Some host.Char
    held (seen.Enumeration place names) = Some (host.Enumeration place (length names))
    held _ = None

-- the host of a kind or of what it is a part of
abbrev pub host_of : Kind → Option Host
host_of k = held (out-Kind k)
  where
    held : seen.Kind-F Kind FieldKind → Option Host
    held (seen.Part from low high) = host_in from
    held _ = host_in k

-- what a variable of a kind yields that is no set, by its host, if it has one
abbrev pub type_by : Option Host → Kind → Yielded
type_by None k = Group k
type_by (Some h) k = Ordinal h

-- what a variable of a kind yields
abbrev pub type_of : Kind → Yielded
type_of k = held (out-Kind k)
  where
    held : seen.Kind-F Kind FieldKind → Yielded
    held (seen.SetOf base) = Set (host_of base)
    held _ = type_by (host_of k) k

-- whether sets have members of one host, as `[ ]` has with each
abbrev pub are_hosts_one : Option Host → Option Host → Bool
are_hosts_one (Some h) (Some g) = is_host h g
are_hosts_one _ _ = true

-- whether a value of the second type may be assigned to a variable of the first one
abbrev pub is_assignable : Yielded → Yielded → Bool
is_assignable (Ordinal h) (Ordinal g) = is_host h g
is_assignable (Set h) (Set g) = are_hosts_one h g
is_assignable (Group j) (Group k) = is_alike j k
is_assignable _ _ = false
