-- The ordinals of a host (ISO 7185, 6.4.2 and 6.6.6.4).
use Rattle.std.specs.Prelude.{ℤ, pos, neg_ℤ, ◌&&◌, int_le, Result, Ok, Err}
use Rattle.std.specs.Prelude.{if◌then◌else◌}
use Rattle.est_syntax.specs.Kinds.{maxint}
use Rattle.est_values.specs.FittingValues.{last_constant}
use Rattle.est_values.specs.declared.types.Host.{Host}
use Rattle.est_values.specs.declared.types.Host.TheVariants as host
use Rattle.mean_blocks.specs.declared.fault.BlockFault.{BlockFault}
use Rattle.mean_blocks.specs.declared.fault.BlockFault.TheVariants.{Range}

-- the first ordinal of a host
abbrev pub first_of_host : Host → ℤ
first_of_host host.Integer = neg_ℤ (pos maxint)
first_of_host _ = pos 0

-- the last one
abbrev pub last_of_host : Host → ℤ
last_of_host host.Integer = pos maxint
last_of_host host.Boolean = pos 1
last_of_host host.Char = pos 127
last_of_host (host.Enumeration place n) = last_constant n

-- an ordinal of a host, or a fault
abbrev pub within_host : Host → ℤ → Result ℤ BlockFault
within_host h z =
    if int_le (first_of_host h) z && int_le z (last_of_host h) then Ok z else Err Range
