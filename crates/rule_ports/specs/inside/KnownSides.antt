-- Signals that were made already.
use Rattle.std.specs.Prelude.{◌≡◌, ℕ, List, [], ◌∷◌}
use Rattle.est_syntax.specs.declared.channel.Role.{Role}
use Rattle.est_syntax.specs.declared.channel.Role.TheVariants.{First, Second}
use Rattle.est_syntax.specs.declared.ports.Signal.{Signal}
use Rattle.rule_scope.specs.Outline.{Outline, names_of}
use Rattle.rule_declares.specs.PortList.{signals_in}
use Rattle.rule_ports.specs.declared.known.Sides.{Sides}

-- the side of a role
abbrev pub side_signals : Sides → Role → List Signal
side_signals s First = s.first
side_signals s Second = s.second

-- the sides are those of a channel, by the place of its name
abbrev pub IsKnown : Outline → ℕ → Sides → Type 0
IsKnown o channel sides = (r : Role) → side_signals sides r ≡ signals_in o r (names_of o channel)

-- and each in a list is
abbrev pub AreKnown : Outline → List (ℕ × Sides) → Type 0
AreKnown o [] = Unit {0}
AreKnown o ((channel, sides) ∷ known) = IsKnown o channel sides × AreKnown o known
