use Rattle.std.proofs.Common.{◌≡◌, drop}
use Rattle.mean_blocks.specs.OperandHosts.{subject_at, subject_along}
use Rattle.plain_names.specs.HostSubjects.{subject_in}
use Rattle.plain_names.proofs.hosts.host_along.Given as goal

abbrev pub invariant-loop-selector : goal.invariant-loop-selector
invariant-loop-selector l =
    subject_along l.outline (drop l.selector-index l.path) (subject_in l.subject)
    ≡ subject_along l.outline l.path (subject_at l.outline l.place)
