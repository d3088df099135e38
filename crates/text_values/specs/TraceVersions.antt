-- What the versions of traces differ in.
use Rattle.text_values.specs.declared.formats.Format.{Format}
use Rattle.text_values.specs.declared.formats.Format.TheVariants.{Complete, Partial}
use Rattle.text_values.specs.declared.formats.Version.{Version}
use Rattle.text_values.specs.declared.formats.Version.TheVariants.{First, Second, Third}

-- what may stand in the brackets of a departure in this version
abbrev pub format_of : Version → Format
format_of First = Complete
format_of Second = Partial
format_of Third = Partial
