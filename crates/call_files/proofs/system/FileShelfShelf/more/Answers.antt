use Rattle.std.proofs.Common.{[]}
use Rattle.call_files.proofs.system.FileShelfShelf.more.Goals as goal

-- it reads every name
pub returns-in_default-clause-idle : goal.returns-in_default-clause-idle
returns-in_default-clause-idle g c = λ unread. absurd (unread [] tt)

pub returns-clause-idle : goal.returns-clause-idle
returns-clause-idle g c = λ unread. absurd (unread [] tt)
