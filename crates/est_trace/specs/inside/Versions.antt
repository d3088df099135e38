-- What a reader does with the version of a trace.
use Rattle.std.specs.Prelude.{◌≡◌, true}
use Rattle.text_reader.specs.declared.reader.Reader.{Reader}
use Rattle.text_reader.specs.declared.outcome.Outcome.TheVariants.{Well}
use Rattle.text_reader.specs.Moving.{Takes}
use Rattle.text_reader.specs.Tests.{stands}
use Rattle.text_values.specs.declared.formats.Version.{Version}
use Rattle.text_values.specs.TraceGrammar.{version}

-- the number of this version is taken, and that of no other one stands there
pub record TakesVersion (old : Reader) (v : Version) (new : Reader) : Type 0 where
  pub takes : Takes (version v) old new
  pub only : old.outcome ≡ Well → (other : Version)
      → stands old.tokens.now old.at (version other) ≡ true → other ≡ v
