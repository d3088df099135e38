-- What holds of merges.
use Rattle.std.specs.Prelude.{◌≡◌, length}
use Rattle.est_syntax.specs.declared.specification.Spec.{Spec}
use Rattle.est_meaning.specs.AllowedEvents.{IsAllowedTrace}
use Rattle.est_meaning.specs.RecordedTraces.{Recorded}
use Rattle.mean_ports.specs.declared.lists.PortLists.{PortLists}
use Rattle.mean_ports.specs.Merges.{IsMerge, AreAllowedLists, event_count}

-- all merges have as many events
abbrev pub MergesAreAsLong : Type 0
MergesAreAsLong = (lists : PortLists) (merge : Recorded) → IsMerge lists merge
    → length merge.events ≡ event_count lists

-- a merge of lists within their limits is a trace within its limits
abbrev pub MergesAreAllowed : Type 0
MergesAreAllowed = (spec : Spec) (lists : PortLists) (merge : Recorded)
    → AreAllowedLists spec lists → IsMerge lists merge → IsAllowedTrace spec merge
