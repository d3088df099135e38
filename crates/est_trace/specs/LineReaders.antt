-- A reader of lines.
use Rattle.std.specs.Prelude.{◌≡◌}
use Rattle.est_syntax.specs.declared.specification.Spec.{Spec}
use Rattle.est_meaning.specs.rule_declares.PortList.{ports_of}
use Rattle.est_trace.specs.Directories.{IsDirectory}
use Rattle.est_trace.specs.declared.lines.LineReader.{LineReader}

-- it reads lines of traces of this specification
pub record IsLineReader (spec : Spec) (reader : LineReader) : Type 0 where
  pub directory : IsDirectory reader.directory
  pub ports : reader.directory.ports.now ≡ ports_of spec
