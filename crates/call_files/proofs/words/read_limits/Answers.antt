use Rattle.call_files.proofs.WordLaws.{two_words, none_given, both_given}
use Rattle.call_files.proofs.words.read_limits.Goals as goal

pub returns-in-empty-clause-limits : goal.returns-in-empty-clause-limits
returns-in-empty-clause-limits c = none_given c.args.words.now c.in-empty.len_below

pub returns-in_ok-statements-in-len2-clause-limits :
    goal.returns-in_ok-statements-in-len2-clause-limits
returns-in_ok-statements-in-len2-clause-limits c =
    both_given c.args.words.now c.silent-item.result c.statements-item.result _ _
    (two_words _ _ _ c.in-len2.len_at_least c.in-len2.len_below c.silent-item.is
    c.statements-item.is)
    (rw c.as_str.ensures.value at c.in_ok-silent-in-len2.ensures) (rw c.as_str-in-len2.ensures.value
    at c.in_ok-statements-in-len2.ensures)
