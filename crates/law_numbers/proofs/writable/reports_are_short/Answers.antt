use Rattle.law_numbers.proofs.ShortReports.{reports_short}
use Rattle.law_numbers.proofs.writable.reports_are_short.Goals as goal

pub returns : goal.returns
returns c = reports_short
