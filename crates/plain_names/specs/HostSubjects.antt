-- What a name with some selectors is of, as the program holds it.
use Rattle.std.specs.Prelude.{Option}
use Rattle.std.specs.Option.{option_map}
use Rattle.plain_texts.specs.mean_blocks.OperandHosts.{Subject, OfKind, OfModules}
use Rattle.plain_names.specs.declared.hosts.Subject as host
use Rattle.plain_names.specs.declared.hosts.Subject.TheVariants as subjects

-- what a name with some selectors is of
abbrev pub shown : host.Subject → Subject
shown (subjects.Kind k) = OfKind k.now
shown (subjects.Modules p) = OfModules p

abbrev pub subject_in : Option host.Subject → Option Subject
subject_in s = option_map shown s
