use Rattle.call_files.proofs.ReadLaws.{reads_good}
use Rattle.call_files.proofs.lists.lists_of.Goals as goal

pub returns-in-Ok-clause-reads : goal.returns-in-Ok-clause-reads
returns-in-Ok-clause-reads c = reads_good _ c.in_ok-tokens.ensures.same_text c.requires
    c.in_ok-tokens.ensures.tokens c.in-Ok.ensures.reads
