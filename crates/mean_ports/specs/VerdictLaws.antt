-- What holds of verdicts along one trace for each port.
use Rattle.std.specs.Prelude.{◌≡◌, ℕ}
use Rattle.est_meaning.specs.Run.{Setup, IsBegun}
use Rattle.mean_ports.specs.declared.lists.PortLists.{PortLists}
use Rattle.mean_ports.specs.declared.verdict.PortsVerdict.{PortsVerdict}
use Rattle.mean_ports.specs.declared.verdict.PortsVerdict.TheVariants.{Accepted, Refused}
use Rattle.mean_ports.specs.declared.verdict.PortsVerdict.TheVariants.{OverTries, OverAction}
use Rattle.mean_ports.specs.Merges.{AreAllowedLists}
use Rattle.mean_ports.specs.PortsVerdict.{IsPortsVerdict}

-- Two verdicts do not speak against each other. Of the merge and the run this says nothing, and
-- one that ran out of tries agrees with all.
abbrev pub TellTheSame : PortsVerdict → PortsVerdict → Type 0
TellTheSame (OverTries a) _ = Unit {0}
TellTheSame _ (OverTries b) = Unit {0}
TellTheSame (Accepted m r) (Accepted n s) = Unit {0}
TellTheSame (Refused most m r) (Refused other n s) = most ≡ other
TellTheSame (OverAction m r i f) (OverAction n s j g) = Unit {0}
TellTheSame _ _ = ⊥

-- right verdicts on a specification and its lists do not speak against each other, whatever their
-- budgets are
abbrev pub VerdictsAgree : Type 0
VerdictsAgree = (c : Setup) (lists : PortLists) (budget other : ℕ) (v w : PortsVerdict)
    → IsBegun c → AreAllowedLists c.spec lists → IsPortsVerdict c lists budget v
    → IsPortsVerdict c lists other w → TellTheSame v w
